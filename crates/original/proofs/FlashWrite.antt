-- The frames of a data-flash write, one after the other, are the original's loop over its chunks.
-- Assumes nothing.
use Prim.Native.Nat.{ℕ, zero, suc, ◌+◌, ◌-◌, ◌*◌, ◌%◌, ◌≤◌, ◌<◌, min}
use mathlib.Core.Path.{◌≡◌, refl, sym, ap, ◌∙◌}
use mathlib.Core.List.{List, ◌∷◌, ◌++◌}
use mathlib.Core.Bool.{Bool, true, false}
use native.Mathlib.Omega.{arith}
use lib.ListN.{length, take, drop, length-take, length-drop}
use lib.Dec.{ltb, eqb}
use borrow.Author.Tests.{le-ltb, eq-eqb, ne_eqb, eqb-true, eqb-false}
use Rattle.protocol.specs.Pick.{when◌then◌else◌}
use Rattle.protocol.specs.Bytes.{blocks_of}
use Rattle.protocol.specs.Frame.{sealed, mac_bytes, pair_of}
use Rattle.protocol.proofs.Laws.{take_short}
use Rattle.protocol.specs.declared.common.Side.TheVariants as side
use Rattle.protocol.specs.declared.common.Config.{Config}
use Rattle.writing.specs.Frames.{is_flash, is_plain, bytes_at, block_bytes}
use Rattle.writing.specs.Writing as writing
use Rattle.r5.specs.Plans as r5
use Rattle.original.specs.OriginalCommon.{set_for}
use Rattle.original.specs.Bus.{BusOutcome, Log, Ok}
use Rattle.original.specs.OriginalInterface as original
use Rattle.original.proofs.WriteTurns.{frame_at, each}
use Rattle.original.proofs.Laws.{settle_by, settle_of}

module _ (config : Config) (start : ℕ) (bytes : List ℕ) where
  -- the chunk that is due, as the original builds it
  abbrev due : ℕ → List ℕ
  due left =
      0x44 ∷ (min 36 (left + 4) - 2) ∷ original.to_le_bytes (start + (length bytes - left))
      ++ take (length bytes - left + min 36 (left + 4) - 4 - (length bytes - left)) (drop (length bytes - left) bytes)

  -- block i of the payload is the chunk that is due
  chunk_frame : (i left : ℕ) → i * 32 + left ≡ length bytes
      → block_bytes start i bytes ≡ due left
  unfolding block_bytes mac_bytes pair_of original.to_le_bytes
  chunk_frame i left e =
      let a : length bytes - left ≡ i * 32 = omega arith in
      let l : length (drop (i * 32) bytes) ≡ left = rw length-drop (omega arith) in
      let k : i * 32 + min 36 (left + 4) - 4 - i * 32 ≡ min 32 left = omega arith in
      let c : (length (take 32 (drop (i * 32) bytes)) + 2) % 256 ≡ min 36 (left + 4) - 2 = rw (length-take, l) (omega arith) in
      let s : take (min 32 left) (drop (i * 32) bytes) ≡ take 32 (drop (i * 32) bytes) = rw (← l) (take_short 32 (drop (i * 32) bytes)) in
      rw (a, k, c, s)

  -- nothing is left
  none_left : (turns committed : ℕ) (log : Log) (outcomes : List BusOutcome) → original.write_chunks (set_for side.Write config) start bytes turns committed 0 log outcomes ≡ Ok log outcomes
  unfolding original.write_chunks when◌then◌else◌
  none_left zero committed log outcomes = refl
  none_left (suc turns) committed log outcomes = refl

  -- a count of blocks is 0 where a count of bytes is
  first_block : (i : ℕ) (t : Bool) → eqb i 0 ≡ t → eqb (i * 32) 0 ≡ eqb i 0
  first_block i true e = let z : i ≡ 0 = eqb-true i 0 e in eq-eqb (i * 32) 0 (omega arith) ∙ sym e
  first_block i false e = ne_eqb (i * 32) 0 (λ z. eqb-false i 0 e (omega arith)) ∙ sym e

  module _ (w : ℕ) (far : start + length bytes ≤ 0x6000) where
    -- blocks from block i on are the turns of the loop from there on
    abbrev pub Chunks : ℕ → Type 0
    Chunks todo = (turns i left : ℕ) (log : Log) (outcomes : List BusOutcome) → i * 32 + left ≡ length bytes → 0 < left → left ≤ suc turns → suc todo ≡ blocks_of left
        → each (r5.write_dataflash config start) bytes w (suc todo) i log outcomes ≡ original.write_chunks (set_for side.Write config) start bytes (suc turns) (i * 32) left log outcomes

    -- what follows block i
    abbrev After : ℕ → Type 0
    After todo = (turns i left : ℕ) → i * 32 + left ≡ length bytes → 0 < left → left ≤ suc turns → suc todo ≡ blocks_of left → (log : Log) (outcomes : List BusOutcome)
        → each (r5.write_dataflash config start) bytes w todo (suc i) log outcomes
        ≡ original.write_chunks (set_for side.Write config) start bytes turns (i * 32 + (length bytes - left + min 36 (left + 4) - 4 - (length bytes - left))) (left - 32) log outcomes

    nothing_after : After zero
    unfolding each
    nothing_after turns i left e some enough c log outcomes =
        let z : left - 32 ≡ 0 = omega arith in
        rw z (sym (none_left turns _ log outcomes))

    block_after_lem : (todo : ℕ) → Chunks todo → After (suc todo)
    block_after_lem todo ih zero i left e some enough c log outcomes = absurd (omega arith)
    block_after_lem todo ih (suc turns) i left e some enough c log outcomes =
        let k : i * 32 + (length bytes - left + min 36 (left + 4) - 4 - (length bytes - left)) ≡ suc i * 32 = omega arith in
        rw k (ih turns (suc i) (left - 32) log outcomes (omega arith) (omega arith) (omega arith) (omega arith))

    block_and_after : (todo : ℕ) → After todo → Chunks todo
    unfolding each r5.write_dataflash writing.plan_of writing.own_bytes writing.gave_up is_plain is_flash bytes_at frame_at sealed when◌then◌else◌ original.write_chunks original.with_pec
    block_and_after todo after turns i left log outcomes e some enough c =
        let l : eqb left 0 ≡ false = ne_eqb left 0 (λ z. omega arith) in
        let a : ltb 0xFFFF (start + (length bytes - left)) ≡ false = le-ltb 0xFFFF (start + (length bytes - left)) (omega arith) in
        let f : sealed config.pec_write (block_bytes start i bytes) ≡ sealed config.pec_write (due left) = rw (chunk_frame i left e) in
        rw (l, a, first_block i (eqb i 0) refl)
        (settle_by _ _ _ (after turns i left e some enough c) _
        ∙ settle_of _ _ (ap (λ (frame : List ℕ). original.write_with_retries_internal config.max_write_retries frame log outcomes) f))

    pub chunks : (todo : ℕ) → Chunks todo
    chunks zero = block_and_after zero nothing_after
    chunks (suc todo) = block_and_after (suc todo) (block_after_lem todo (chunks todo))

    pub all_chunks : (todo turns : ℕ) (log : Log) (outcomes : List BusOutcome) → turns ≡ length bytes → 0 < length bytes → suc todo ≡ blocks_of (length bytes)
        → each (r5.write_dataflash config start) bytes w (suc todo) 0 log outcomes ≡ original.write_chunks (set_for side.Write config) start bytes turns 0 (length bytes) log outcomes
    all_chunks todo zero log outcomes e some c = absurd (omega arith)
    all_chunks todo (suc turns) log outcomes e some c = chunks todo turns 0 (length bytes) log outcomes (omega arith) some (omega arith) c
