-- Each row: the call that its kind starts is the Rust's function of that row.
-- Assumes nothing.
use Prim.Native.Nat.{ℕ, zero, suc, ◌+◌, ◌-◌, ◌≤◌, ◌<◌}
use mathlib.Core.Path.{◌≡◌, refl, sym, ap, ◌∙◌}
use mathlib.Core.Bool.{Bool, true, false, not, false≢true}
use mathlib.Core.List.{List, [], ◌∷◌}
use native.Mathlib.Omega.{arith}
use lib.ListN.{length, drop, get_or, replicate, length-replicate, drop_of_length-le}
use lib.Seq.{get_or-drop, drop-drop}
use lib.Dec.{ltb, eqb}
use borrow.Author.Tests.{eq-eqb, ne_eqb, ltb-true, ltb-false, eqb-true, eqb-false}
use Rattle.hexadecimal.specs.BothWays.{AllBytes}
use Rattle.protocol.specs.Pick.{when◌then◌else◌}
use Rattle.protocol.specs.Common.{TwoByteBudgets}
use Rattle.protocol.specs.declared.common.Side.{Side}
use Rattle.protocol.specs.declared.common.Side.TheVariants as side
use Rattle.protocol.specs.declared.common.Config.{Config}
use Rattle.protocol.specs.declared.error.Answer.{Answer}
use Rattle.protocol.specs.declared.error.Answer.TheVariants as answer
use Rattle.engine.specs.Budget.{nothing}
use Rattle.calls.specs.Sides.{side_of}
use Rattle.calls.specs.Call.{start_of}
use Rattle.calls.specs.declared.kind.Kind.{Kind}
use Rattle.calls.specs.declared.kind.Kind.TheVariants as kind
use Rattle.requests.specs.Fields.{pair_at, quad_at}
use Rattle.requests.specs.Request as requests
use Rattle.requests.specs.Request.{Request, call_for, called_of, exact_of, asked_of}
use Rattle.requests.specs.declared.request.Header.{Header}
use Rattle.dialogue.specs.Dialogue.{zeros}
use Rattle.dialogue.specs.Bench.{call_run, request_then}
use Rattle.original.specs.Bus.{BusOutcome, begun, Came, Err, Read, ◌leaving◌}
use Rattle.original.specs.OriginalCommon.{set_for}
use Rattle.original.specs.OriginalInterface as rust
use Rattle.original.specs.Equal.{Equal}
use Rattle.original.specs.Fed.{fed}
use Rattle.original.specs.ByKind.{rust_of, Defined, Added, long_frame, input_given, keys_written, key_written, EqualByKind}
use Rattle.original.proofs.Equal.{equal}
use Rattle.original.proofs.ByKind.{equal_by_kind}
use Rattle.bench_promises.specs.Kinds.{Row, unlike, rows, waited_by, Asked, bad, call, asked_by, asked_among}
use Rattle.bench_promises.specs.RustBench.{transfer_lines, run_asked}
use Rattle.bench_promises.proofs.Said.{end_said_lem}
use Rattle.bench_promises.proofs.Lasts.{per_frame_of, lasts_begin}
use Rattle.bench_promises.proofs.Follow.{lent, follow}
use Rattle.bench_promises.proofs.Asked.{byte_at, pair_at_lem, quad_at_lem, missing, long, wide, called, other, exact}

-- of two rows the first, or the second
abbrev pick : Bool → Row → Row → Row
pick true first second = first
pick false first second = second

-- the row of a kind
abbrev row_among : List Row → ℕ → Row
row_among [] k = record { kind = 0; fixed = 0; least = 0; most = 0; size = λ s. 0; side = λ n. side.Write; per_frame = true; call = λ config s p b os. Err answer.BadLine begun os leaving b }
row_among (first ∷ more) k = pick (eqb k first.kind) first (row_among more k)

abbrev row : ℕ → Row
row k = row_among rows k

-- a command with no output is a write
command_side : (address n : ℕ) → (when eqb n 0 then side.Write else side.Read) ≡ side_of (kind.DispatchCommand address) n
unfolding when◌then◌else◌
command_side address zero = refl
command_side address (suc n) = rw (ne_eqb (suc n) 0 (λ e. omega arith))

module _ (line : List ℕ) (lines : List (List ℕ)) (rest : List ℕ) (c : Config) (before : ℕ) where
  abbrev header : Header
  header = record { config = c; bytes = before }

  abbrev args : List ℕ
  args = drop before line

  -- what the machine makes of a request is what the Rust makes of what is asked
  abbrev Same : Request → Asked → Type 0
  Same q a = request_then q line lines rest ≡ run_asked a lines rest

  pub same_bad : (q : Request) → q ≡ requests.bad → Same q bad
  unfolding request_then run_asked nothing
  same_bad q e = rw e (ap (λ (s : List ℕ). s ∷ []) (end_said_lem answer.BadLine nothing []))

  -- the lengths of a line are those of its row
  record Within (row : Row) : Type 0 where
    fixed : row.fixed ≤ length args
    least : row.least ≤ length args - row.fixed
    most : length args - row.fixed ≤ row.most
    size : row.size args ≤ 8192

  -- the machine asks for a call of this kind exactly within them
  record Tests (row : Row) (k : Kind) (q : Request) : Type 0 where
    missing : length args < row.fixed → q ≡ requests.bad
    short : row.fixed ≤ length args → length args - row.fixed < row.least → q ≡ requests.bad
    long : row.fixed ≤ length args → row.most < length args - row.fixed → q ≡ requests.bad
    wide : row.fixed ≤ length args → 8192 < row.size args → q ≡ requests.bad
    good : Within row → q ≡ call_for k c (before + row.fixed) (row.size args)

  abbrev payload : Row → List ℕ
  payload row = drop row.fixed args

  abbrev buffer : Row → List ℕ
  buffer row = replicate (row.size args) 0xA5

  abbrev side_in : Row → Side
  side_in row = row.side (row.size args)

  -- the call of a kind, fed
  abbrev fed_as : Row → Kind → List BusOutcome → Read
  fed_as row k os = fed (start_of k c (length (payload row)) (length (buffer row)) 39) (payload row) (buffer row) lent [] os

  -- what is asked for by a row
  abbrev rust_in : Row → List BusOutcome → Read
  rust_in row = row.call (set_for (side_in row) c) args (payload row) (buffer row)

  abbrev ms_in : Row → List BusOutcome → ℕ
  ms_in row = waited_by row.per_frame c.growing_waits (set_for (side_in row) c).max_bus_retries (rust_in row)

  -- the budgets of a row are those of its kind
  abbrev Own : Row → Kind → Type 0
  Own row k = (row.per_frame ≡ per_frame_of k) × ((n : ℕ) → row.side n ≡ side_of k n)

  side_in_lem : (row : Row) (k : Kind) → ((n : ℕ) → row.side n ≡ side_of k n) → side_in row ≡ side_of k (length (buffer row))
  side_in_lem row k own = own (row.size args) ∙ ap (side_of k) (sym (length-replicate {A = ℕ} (row.size args) 0xA5))

  same_call : (row : Row) (k : Kind) → Own row k → TwoByteBudgets c → ((os : List BusOutcome) → rust_in row os ≡ fed_as row k os)
      → Same (call_for k c (before + row.fixed) (row.size args)) (call (rust_in row) (ms_in row))
  unfolding request_then run_asked transfer_lines
  same_call row k own small e =
      let whole : length (buffer row) ≡ row.size args = length-replicate {A = ℕ} (row.size args) 0xA5 in
      rw (← drop-drop row.fixed before line)
      (ap (λ (n : ℕ). call_run (start_of k c (length (payload row)) n 39) (payload row) (buffer row) lines rest) (sym whole)
      ∙ sym (follow lines row.per_frame c.growing_waits (set_for (side_in row) c).max_bus_retries (rust_in row) rest (payload row) (start_of k c (length (payload row)) (length (buffer row)) 39) (buffer row) [] []
      (lasts_begin c small k row.per_frame own.0 (length (payload row)) (length (buffer row)) 39 (side_in row) (side_in_lem row k own.1)) e))

  leaf : TwoByteBudgets c → (row : Row) (k : Kind) (q : Request) → Own row k → Tests row k q → (Within row → (os : List BusOutcome) → rust_in row os ≡ fed_as row k os)
      → Same q (asked_by row c args)
  unfolding asked_by when◌then◌else◌
  leaf small row k q own t e =
      by (ltb (length args) row.fixed) refl (ltb (length args - row.fixed) row.least) refl (ltb row.most (length args - row.fixed)) refl (ltb 8192 (row.size args)) refl
    where
      by : (a : Bool) → ltb (length args) row.fixed ≡ a → (b : Bool) → ltb (length args - row.fixed) row.least ≡ b
          → (d : Bool) → ltb row.most (length args - row.fixed) ≡ d → (w : Bool) → ltb 8192 (row.size args) ≡ w
          → Same q (when a then bad else when b then bad else when d then bad else when w then bad else call (rust_in row) (ms_in row))
      by true a b p d q' w r = same_bad q (t.missing (ltb-true _ _ a))
      by false a true p d q' w r = same_bad q (t.short (ltb-false _ _ a) (ltb-true _ _ p))
      by false a false p true q' w r = same_bad q (t.long (ltb-false _ _ a) (ltb-true _ _ q'))
      by false a false p false q' true r = same_bad q (t.wide (ltb-false _ _ a) (ltb-true _ _ r))
      by false a false p false q' false r =
          let within : Within row = record { fixed = ltb-false _ _ a; least = ltb-false _ _ p; most = ltb-false _ _ q'; size = ltb-false _ _ r } in
          rw (t.good within) (same_call row k own small (e within))

  -- a payload of any length up to 8,192
  any_length : (row : Row) (k : Kind) (size : ℕ) → row.least ≡ 0 → row.most ≡ 8192 → (row.fixed ≤ length args → size ≡ row.size args)
      → Tests row k (called_of k header row.fixed size (length args))
  any_length row k size l m e = record {
    missing = missing k header row.fixed size (length args);
    short = λ f h. absurd (omega arith);
    long = λ f h. long k header row.fixed size (length args) (omega arith);
    wide = λ f h. wide k header row.fixed size (length args) (rw (e f) h);
    good = λ w.
        called k header row.fixed size (length args) w.fixed (omega (arith, w.most)) (rw (e w.fixed) w.size) ∙ ap (call_for k c (before + row.fixed)) (e w.fixed);
  }

  -- a payload of one length
  one_length : (row : Row) (k : Kind) (p size : ℕ) → p ≤ 8192 → row.least ≡ p → row.most ≡ p → (row.fixed ≤ length args → size ≡ row.size args)
      → Tests row k (exact_of k header row.fixed p size (length args))
  one_length row k p size small l m e = record {
    missing = λ h. other k header row.fixed size (length args) p (λ q. omega arith);
    short = λ f h. other k header row.fixed size (length args) p (λ q. omega arith);
    long = λ f h. other k header row.fixed size (length args) p (λ q. omega arith);
    wide = λ f h. by f h (eqb (length args) (row.fixed + p)) refl;
    good = λ w.
        exact k header row.fixed size (length args) p (omega (arith, w.fixed, w.least, w.most))
        ∙ called k header row.fixed size (length args) w.fixed (omega (arith, w.most)) (rw (e w.fixed) w.size) ∙ ap (call_for k c (before + row.fixed)) (e w.fixed);
  }
    where
      by : row.fixed ≤ length args → 8192 < row.size args → (t : Bool) → eqb (length args) (row.fixed + p) ≡ t → exact_of k header row.fixed p size (length args) ≡ requests.bad
      by f h true q = exact k header row.fixed size (length args) p (eqb-true _ _ q) ∙ wide k header row.fixed size (length args) (rw (e f) h)
      by f h false q = other k header row.fixed size (length args) p (eqb-false _ _ q)

  -- a row whose payload has any length, and one whose payload has one
  any : TwoByteBudgets c → (row : Row) (k : Kind) (size : ℕ) → Own row k → row.least ≡ 0 → row.most ≡ 8192 → (row.fixed ≤ length args → size ≡ row.size args)
      → (Within row → (os : List BusOutcome) → rust_in row os ≡ fed_as row k os) → Same (called_of k header row.fixed size (length args)) (asked_by row c args)
  any small row k size b l m e f = leaf small row k (called_of k header row.fixed size (length args)) b (any_length row k size l m e) f

  one : TwoByteBudgets c → (row : Row) (k : Kind) (p size : ℕ) → p ≤ 8192 → Own row k → row.least ≡ p → row.most ≡ p → (row.fixed ≤ length args → size ≡ row.size args)
      → (Within row → (os : List BusOutcome) → rust_in row os ≡ fed_as row k os) → Same (exact_of k header row.fixed p size (length args)) (asked_by row c args)
  one small row k p size few b l m e f = leaf small row k (exact_of k header row.fixed p size (length args)) b (one_length row k p size few l m e) f

  -- two chains of choices, choice by choice
  both : (t : Bool) (q r : Request) (a b : Asked) → Same q a → Same r b → Same (when t then q else r) (when t then a else b)
  unfolding when◌then◌else◌
  both true q r a b x y = x
  both false q r a b x y = y

  -- the function, or the added refusal
  either : (t : Bool) (x y : Came) (b : List ℕ) (f : Read) → (t ≡ true → f ≡ (x leaving b)) → (t ≡ false → f ≡ (y leaving b)) → ((when t then x else y) leaving b) ≡ f
  unfolding when◌then◌else◌
  either true x y b f h g = sym (h refl)
  either false x y b f h g = sym (g refl)

  either_read : (t : Bool) (x y f : Read) → (t ≡ true → f ≡ x) → (t ≡ false → f ≡ y) → (when t then x else y) ≡ f
  unfolding when◌then◌else◌
  either_read true x y f h g = sym (h refl)
  either_read false x y f h g = sym (g refl)

  unlike_not : (n : ℕ) (s : List ℕ) → unlike n s ≡ true → length s ≡ n → ⊥
  unlike_not n s h e = false≢true (rw (eq-eqb (length s) n e) at h)

  unlike_same : (n : ℕ) (s : List ℕ) → unlike n s ≡ false → length s ≡ n
  unlike_same n s = by (eqb (length s) n) refl
    where
      by : (t : Bool) → eqb (length s) n ≡ t → not t ≡ false → length s ≡ n
      by true e h = eqb-true (length s) n e
      by false e h = absurd (false≢true (sym h))

  module _ (small : TwoByteBudgets c) (bytes : AllBytes line) where
    steady : (i : ℕ) → length (lent i).work ≡ 39
    unfolding zeros
    steady i = refl

    by_kind : (os : List BusOutcome) → EqualByKind c 39 lent os
    by_kind os = equal_by_kind c small 39 (omega arith) lent steady os

    by_name : (os : List BusOutcome) → Equal c 39 lent os
    by_name os = equal c small 39 (omega arith) lent steady os

    small_buffer : (row : Row) → Within row → length (buffer row) ≤ 18446744073709551615
    small_buffer row w = rw (length-replicate {A = ℕ} (row.size args) 0xA5) (omega (arith, w.size))

    all_bytes : (i : ℕ) → get_or args i 0 < 256
    all_bytes i = rw (get_or-drop before line i 0) (bytes (before + i))

    same : (row : Row) (k : Kind) (os : List BusOutcome) → Defined k c (payload row) (buffer row) → rust_of k c (payload row) (buffer row) os ≡ fed_as row k os
    same row k os d = sym ((by_kind os).same k (payload row) (buffer row) d)

    added : (row : Row) (k : Kind) (os : List BusOutcome) (a : Answer) → Added c (payload row) (buffer row) k a → fed_as row k os ≡ (Err a begun os leaving buffer row)
    added row k os a d = (by_kind os).added k (payload row) (buffer row) a d

    own_size : (n : ℕ) → length (replicate {A = ℕ} n 0xA5) ≡ n
    own_size n = length-replicate {A = ℕ} n 0xA5

    write_dataflash_lem : Same (called_of (kind.WriteDataflash (pair_at 0 args)) header 2 0 (length args)) (asked_by (row 0x01) c args)
    write_dataflash_lem =
        any small (row 0x01) (kind.WriteDataflash (pair_at 0 args)) 0 (refl, λ n. refl) refl refl (λ h. refl)
        (λ w os. rw (pair_at_lem 0 args (omega (arith, w.fixed))) (same (row 0x01) _ os tt))

    read_dataflash_lem : Same (exact_of (kind.ReadDataflash (pair_at 0 args)) header 4 0 (pair_at 2 args) (length args)) (asked_by (row 0x02) c args)
    read_dataflash_lem =
        one small (row 0x02) (kind.ReadDataflash (pair_at 0 args)) 0 (pair_at 2 args) (omega arith) (refl, λ n. refl) refl refl (λ h. sym (pair_at_lem 2 args h))
        (λ w os. rw (pair_at_lem 0 args (omega (arith, w.fixed))) (same (row 0x02) _ os tt))

    write_register_lem : Same (called_of (kind.WriteRegister (get_or args 0 0)) header 1 0 (length args)) (asked_by (row 0x03) c args)
    write_register_lem =
        any small (row 0x03) (kind.WriteRegister (get_or args 0 0)) 0 (refl, λ n. refl) refl refl (λ h. refl)
        (λ w os. rw (byte_at 0 args (omega (arith, w.fixed))) (same (row 0x03) _ os tt))

    read_register_lem : Same (exact_of (kind.ReadRegister (get_or args 0 0)) header 3 0 (pair_at 1 args) (length args)) (asked_by (row 0x04) c args)
    read_register_lem =
        one small (row 0x04) (kind.ReadRegister (get_or args 0 0)) 0 (pair_at 1 args) (omega arith) (refl, λ n. refl) refl refl (λ h. sym (pair_at_lem 1 args h))
        (λ w os. rw (byte_at 0 args (omega (arith, w.fixed))) (same (row 0x04) _ os tt))

    dispatch_command_lem : Same (called_of (kind.DispatchCommand (quad_at 0 args)) header 6 (pair_at 4 args) (length args)) (asked_by (row 0x05) c args)
    dispatch_command_lem =
        any small (row 0x05) (kind.DispatchCommand (quad_at 0 args)) (pair_at 4 args) (refl, command_side (quad_at 0 args)) refl refl (λ h. sym (pair_at_lem 4 args h))
        (λ w os. rw (side_in_lem (row 0x05) (kind.DispatchCommand (quad_at 0 args)) (command_side (quad_at 0 args)), quad_at_lem 0 args (omega (arith, w.fixed)))
        (either_read (rust.dispatch_panics (payload (row 0x05)) (buffer (row 0x05))) _ _ _ (λ t. added (row 0x05) _ os answer.NotACommand (input_given (quad_at 0 args) t)) (λ t. sym (same (row 0x05) _ os t))))

    read_buffer_lem : Same (exact_of (kind.ReadBuffer (get_or args 0 0)) header 3 0 (pair_at 1 args) (length args)) (asked_by (row 0x06) c args)
    read_buffer_lem =
        one small (row 0x06) (kind.ReadBuffer (get_or args 0 0)) 0 (pair_at 1 args) (omega arith) (refl, λ n. refl) refl refl (λ h. sym (pair_at_lem 1 args h))
        (λ w os. rw (byte_at 0 args (omega (arith, w.fixed))) (same (row 0x06) _ os (small_buffer (row 0x06) w)))

    write_buffer_lem : Same (called_of (kind.WriteBuffer (get_or args 0 0)) header 1 0 (length args)) (asked_by (row 0x07) c args)
    write_buffer_lem =
        any small (row 0x07) (kind.WriteBuffer (get_or args 0 0)) 0 (refl, λ n. refl) refl refl (λ h. refl)
        (λ w os. rw (byte_at 0 args (omega (arith, w.fixed))) (same (row 0x07) _ os tt))

    read_security_keys_lem : Same (exact_of kind.ReadSecurityKeys header 0 0 28 (length args)) (asked_by (row 0x08) c args)
    read_security_keys_lem =
        one small (row 0x08) kind.ReadSecurityKeys 0 28 (omega arith) (refl, λ n. refl) refl refl (λ h. refl)
        (λ w os. same (row 0x08) _ os (own_size 28))

    write_security_keys_lem : Same (called_of kind.WriteSecurityKeys header 0 0 (length args)) (asked_by (row 0x09) c args)
    write_security_keys_lem =
        any small (row 0x09) kind.WriteSecurityKeys 0 (refl, λ n. refl) refl refl (λ h. refl)
        (λ w os. either (unlike 28 (payload (row 0x09))) _ _ (buffer (row 0x09)) _
        (λ t. added (row 0x09) _ os answer.WrongBuffer (keys_written (unlike_not 28 (payload (row 0x09)) t))) (λ t. sym (same (row 0x09) _ os (unlike_same 28 (payload (row 0x09)) t))))

    read_authentication_key_lem : Same (exact_of kind.ReadAuthenticationKey header 0 0 16 (length args)) (asked_by (row 0x0A) c args)
    read_authentication_key_lem =
        one small (row 0x0A) kind.ReadAuthenticationKey 0 16 (omega arith) (refl, λ n. refl) refl refl (λ h. refl)
        (λ w os. same (row 0x0A) _ os (own_size 16))

    write_authentication_key_lem : Same (called_of kind.WriteAuthenticationKey header 0 0 (length args)) (asked_by (row 0x0B) c args)
    write_authentication_key_lem =
        any small (row 0x0B) kind.WriteAuthenticationKey 0 (refl, λ n. refl) refl refl (λ h. refl)
        (λ w os. either (unlike 16 (payload (row 0x0B))) _ _ (buffer (row 0x0B)) _
        (λ t. added (row 0x0B) _ os answer.WrongBuffer (key_written (unlike_not 16 (payload (row 0x0B)) t))) (λ t. sym (same (row 0x0B) _ os (unlike_same 16 (payload (row 0x0B)) t))))

    send_access_key_lem : Same (exact_of (kind.SendAccessKey (pair_at 0 args) (pair_at 2 args)) header 4 0 0 (length args)) (asked_by (row 0x0E) c args)
    send_access_key_lem =
        one small (row 0x0E) (kind.SendAccessKey (pair_at 0 args) (pair_at 2 args)) 0 0 (omega arith) (refl, λ n. refl) refl refl (λ h. refl)
        (λ w os. rw (pair_at_lem 0 args (omega (arith, w.fixed)), pair_at_lem 2 args (omega (arith, w.fixed))) (same (row 0x0E) _ os (drop_of_length-le args {i = 4} (omega (arith, w.most, w.fixed)))))

    read_mfg_info_c_lem : Same (exact_of kind.ReadMfgInfoC header 2 0 (pair_at 0 args) (length args)) (asked_by (row 0x0F) c args)
    read_mfg_info_c_lem =
        one small (row 0x0F) kind.ReadMfgInfoC 0 (pair_at 0 args) (omega arith) (refl, λ n. refl) refl refl (λ h. sym (pair_at_lem 0 args h))
        (λ w os. same (row 0x0F) _ os tt)

    write_mfg_info_c_lem : Same (called_of (kind.WriteMfgInfoC (pair_at 0 args) (pair_at 2 args)) header 4 0 (length args)) (asked_by (row 0x10) c args)
    write_mfg_info_c_lem =
        any small (row 0x10) (kind.WriteMfgInfoC (pair_at 0 args) (pair_at 2 args)) 0 (refl, λ n. refl) refl refl (λ h. refl)
        (λ w os. rw (pair_at_lem 0 args (omega (arith, w.fixed)), pair_at_lem 2 args (omega (arith, w.fixed))) (same (row 0x10) _ os tt))

    read_mfg_info_lem : Same (exact_of kind.ReadMfgInfo header 2 0 (pair_at 0 args) (length args)) (asked_by (row 0x11) c args)
    read_mfg_info_lem =
        one small (row 0x11) kind.ReadMfgInfo 0 (pair_at 0 args) (omega arith) (refl, λ n. refl) refl refl (λ h. sym (pair_at_lem 0 args h))
        (λ w os. same (row 0x11) _ os tt)

    write_mfg_info_lem : Same (called_of kind.WriteMfgInfo header 0 0 (length args)) (asked_by (row 0x12) c args)
    write_mfg_info_lem =
        any small (row 0x12) kind.WriteMfgInfo 0 (refl, λ n. refl) refl refl (λ h. refl)
        (λ w os. same (row 0x12) _ os tt)

    read_charging_voltage_override_lem : Same (exact_of kind.ReadChargingVoltageOverride header 0 0 10 (length args)) (asked_by (row 0x13) c args)
    read_charging_voltage_override_lem =
        one small (row 0x13) kind.ReadChargingVoltageOverride 0 10 (omega arith) (refl, λ n. refl) refl refl (λ h. refl)
        (λ w os. same (row 0x13) _ os (own_size 10))

    write_charging_voltage_override_lem : Same (exact_of kind.WriteChargingVoltageOverride header 0 10 0 (length args)) (asked_by (row 0x14) c args)
    write_charging_voltage_override_lem =
        one small (row 0x14) kind.WriteChargingVoltageOverride 10 0 (omega arith) (refl, λ n. refl) refl refl (λ h. refl)
        (λ w os. rw (← (by_name os).override_figures_lem (payload (row 0x14))) (same (row 0x14) _ os (omega (arith, w.least, w.most), all_bytes)))

    write_with_retries_lem : Same (called_of kind.WriteWithRetries header 0 0 (length args)) (asked_by (row 0x15) c args)
    write_with_retries_lem =
        any small (row 0x15) kind.WriteWithRetries 0 (refl, λ n. refl) refl refl (λ h. refl)
        (λ w os. either (rust.write_panics c.pec_write (payload (row 0x15))) _ _ (buffer (row 0x15)) _
        (λ t. added (row 0x15) _ os answer.DataTooLarge (long_frame t)) (λ t. sym (same (row 0x15) _ os t)))

    -- kind by kind
    pub every_kind : (k : ℕ) → Same (asked_of k header args) (asked_among rows k c args)
    unfolding asked_of asked_among
    every_kind k =
        both _ _ _ _ _ write_dataflash_lem
        (both _ _ _ _ _ read_dataflash_lem
        (both _ _ _ _ _ write_register_lem
        (both _ _ _ _ _ read_register_lem
        (both _ _ _ _ _ dispatch_command_lem
        (both _ _ _ _ _ read_buffer_lem
        (both _ _ _ _ _ write_buffer_lem
        (both _ _ _ _ _ read_security_keys_lem
        (both _ _ _ _ _ write_security_keys_lem
        (both _ _ _ _ _ read_authentication_key_lem
        (both _ _ _ _ _ write_authentication_key_lem
        (both _ _ _ _ _ send_access_key_lem
        (both _ _ _ _ _ read_mfg_info_c_lem
        (both _ _ _ _ _ write_mfg_info_c_lem
        (both _ _ _ _ _ read_mfg_info_lem
        (both _ _ _ _ _ write_mfg_info_lem
        (both _ _ _ _ _ read_charging_voltage_override_lem
        (both _ _ _ _ _ write_charging_voltage_override_lem
        (both _ _ _ _ _ write_with_retries_lem
        (same_bad requests.bad refl)))))))))))))))))))
