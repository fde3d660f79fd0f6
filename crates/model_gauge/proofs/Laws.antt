-- What the gauge rests on: which form is neither a block write nor an address; a reply is its parts one after the other, and a read brings its front.
-- Assumes nothing.
use Prim.Native.Nat.{ℕ, ◌+◌, ◌≤◌, min}
use mathlib.Core.Path.{◌≡◌, refl, sym, ap, ◌∙◌}
use mathlib.Core.Bool.{Bool, true, false, false≢true}
use mathlib.Core.List.{List, [], ◌∷◌, ◌++◌, append-nil}
use native.Mathlib.Omega.{arith}
use lib.ListN.{length, replicate, take, drop, set, length-append, length-take, length-drop}
use lib.Dec.{eqb}
use lib.Seq.{take-length, drop-length, length-take-le}
use borrow.Author.Tests.{leb-true, le-leb}
use Rattle.protocol.specs.Pick.{when◌then◌else◌}
use Rattle.protocol.specs.Bytes.{over, block_in, stored_at}
use Rattle.protocol.specs.Window.{in_window}
use Rattle.protocol.proofs.Laws.{over_set, over_over, take_over, length_over, laid_more}
use Rattle.engine.specs.Made.{write, read}
use Rattle.engine.specs.declared.bus.Outcome.TheVariants as outcome
use Rattle.model_gauge.specs.Frame.{read_frame}
use Rattle.model_gauge.specs.Gauge.{new_gauge, block_at, reply_front, reply_of, moved_of, replies_to, Effect, taken, untaken, heard_frame, heard_read, acts, stored, effect_of, handed_back}
use Rattle.model_gauge.specs.declared.frame.Form.{Form}
use Rattle.model_gauge.specs.declared.frame.Form.TheVariants as form
use Rattle.model_gauge.specs.declared.gauge.Effect as handed
use Rattle.model_gauge.specs.declared.gauge.Fate.{Fate}
use Rattle.model_gauge.specs.declared.gauge.Fate.TheVariants as fate
use Rattle.model_gauge.specs.declared.gauge.Gauge.{Gauge}

-- what is neither a block write nor an address
pub neither : (f : Form) → ((address count : ℕ) → f ≡ form.BlockWrite address count → ⊥) → ((address : ℕ) → f ≡ form.Address address → ⊥) → f ≡ form.Other
neither (form.BlockWrite address count) k l = absurd (k address count refl)
neither (form.Address address) k l = absurd (l address refl)
neither form.Other k l = refl

-- a block that has room is laid whole
pub block_whole : (most : ℕ) (b w : List ℕ) → length b ≤ most → length b ≤ length w → block_in most b w ≡ over b w
unfolding block_in
block_whole most b w h k =
    let e : min most (min (length b) (length w)) ≡ length b = omega arith in
    rw (e, take-length)

-- and from any place on
pub stored_whole : (at most : ℕ) (b w : List ℕ) → length b ≤ most → at + length b ≤ length w → stored_at at most b w ≡ take at w ++ over b (drop at w)
unfolding stored_at when◌then◌else◌
stored_whole at most b w h k =
    let n : length b ≤ length (drop at w) = simp length-drop (omega arith) in
    rw (le-leb at (length w) (omega arith), block_whole most b (drop at w) h n)

pub block_long : (at : ℕ) (flash : List ℕ) → length (block_at at flash) ≡ 32
unfolding block_at
block_long at flash = length_over (take 32 (drop at flash)) (replicate 32 0xFF) (simp length-take (omega arith))

pub reply_long : (gauge : Gauge) (flash : List ℕ) → length (reply_of gauge flash) ≡ 36
unfolding reply_of reply_front
reply_long gauge flash = simp (length-append, block_long) (omega arith)

-- a read that is replied to asks for no more than there is
replies_few : (command count : ℕ) → replies_to command count ≡ true → count ≤ 36
unfolding replies_to when◌then◌else◌
replies_few command count t = by (eqb command 0x44) refl
  where
    by : (here : Bool) → eqb command 0x44 ≡ here → count ≤ 36
    by true here = leb-true count 36 (rw here at t)
    by false here = absurd (false≢true (rw here at t))

-- what holds of both holds of whichever it is
pub whichever : {A : Type 0} (P : A → Type 0) (t : Bool) (a b : A) → P a → P b → P (when t then a else b)
unfolding when◌then◌else◌
whichever P true a b p q = p
whichever P false a b p q = q

-- what a frame stores, wherever the gauge points
whichever_stores : (t : Bool) (a b c d : Effect) → a.flash ≡ c.flash → b.flash ≡ d.flash → (when t then a else b).flash ≡ (when t then c else d).flash
unfolding when◌then◌else◌
whichever_stores true a b c d e f = e
whichever_stores false a b c d e f = f

form_stores : (f : Form) (frame : List ℕ) (gauge other : Gauge) (flash : List ℕ) → (heard_frame f frame gauge flash).flash ≡ (heard_frame f frame other flash).flash
unfolding heard_frame
form_stores (form.BlockWrite address count) frame gauge other flash = whichever_stores (in_window address count) _ _ _ _ refl refl
form_stores (form.Address address) frame gauge other flash = whichever_stores (in_window address 1) _ _ _ _ refl refl
form_stores form.Other frame gauge other flash = refl

pub stores : (frame : List ℕ) (gauge : Gauge) (flash : List ℕ) → (acts (write frame) gauge flash).flash ≡ stored frame flash
unfolding stored acts
stores frame gauge flash = form_stores (read_frame frame) frame gauge new_gauge flash

-- a write brings nothing
form_brings : (f : Form) (frame : List ℕ) (gauge : Gauge) (flash : List ℕ) → (heard_frame f frame gauge flash).reply ≡ []
unfolding heard_frame
form_brings (form.BlockWrite address count) frame gauge flash = whichever (λ (e : Effect). e.reply ≡ []) (in_window address count) _ _ refl refl
form_brings (form.Address address) frame gauge flash = whichever (λ (e : Effect). e.reply ≡ []) (in_window address 1) _ _ refl refl
form_brings form.Other frame gauge flash = refl

pub write_brings : (f : Fate) (frame : List ℕ) (gauge : Gauge) (flash : List ℕ) → (effect_of f (write frame) gauge flash).reply ≡ []
unfolding effect_of acts
write_brings fate.Heard frame gauge flash = form_brings (read_frame frame) frame gauge flash
write_brings fate.LostBefore frame gauge flash = refl
write_brings fate.LostAfter frame gauge flash = refl

-- what a read comes to
module _ (command count : ℕ) (gauge : Gauge) (flash : List ℕ) where
  pub read_taken : replies_to command count ≡ true → acts (read command count) gauge flash ≡ taken (take count (reply_of gauge flash)) (moved_of gauge) flash
  unfolding acts heard_read when◌then◌else◌
  read_taken t = rw t

  pub read_untaken : replies_to command count ≡ false → acts (read command count) gauge flash ≡ untaken gauge flash
  unfolding acts heard_read when◌then◌else◌
  read_untaken t = rw t

  pub read_told : replies_to command count ≡ true → record { outcome = outcome.Acknowledged; replied = count; gauge = moved_of gauge } ≡ handed_back (acts (read command count) gauge flash)
  read_told t =
      let few : count ≤ length (reply_of gauge flash) = omega (arith, replies_few command count t, reply_long gauge flash) in
      rw (read_taken t, length-take-le count (reply_of gauge flash) few)

  pub read_stores : (acts (read command count) gauge flash).flash ≡ flash
  unfolding acts heard_read
  read_stores = whichever (λ (e : Effect). e.flash ≡ flash) (replies_to command count) _ _ refl refl

  -- it brings the reply's front or nothing
  acts_brings : (t : Bool) → replies_to command count ≡ t
      → (take (length (acts (read command count) gauge flash).reply) (reply_of gauge flash) ≡ (acts (read command count) gauge flash).reply)
      × (length (acts (read command count) gauge flash).reply ≤ 36)
  acts_brings true t =
      let few : count ≤ length (reply_of gauge flash) = omega (arith, replies_few command count t, reply_long gauge flash) in
      (rw (read_taken t, length-take-le count (reply_of gauge flash) few), rw (read_taken t, length-take-le count (reply_of gauge flash) few) (replies_few command count t))
  acts_brings false t = (rw (read_untaken t), rw (read_untaken t) (omega arith))

  pub read_brings : (f : Fate)
      → (take (length (effect_of f (read command count) gauge flash).reply) (reply_of gauge flash) ≡ (effect_of f (read command count) gauge flash).reply)
      × (length (effect_of f (read command count) gauge flash).reply ≤ 36)
  unfolding effect_of
  read_brings fate.Heard = acts_brings (replies_to command count) refl
  read_brings fate.LostBefore = (refl, omega arith)
  read_brings fate.LostAfter = (refl, omega arith)

  -- which is lent where what is handed back says how long it is
  pub read_lent : (f : Fate) (r : handed.Effect) (whole part w v : List ℕ) → ((bytes : List ℕ) → r ≡ handed_back (effect_of f (read command count) gauge bytes))
      → whole ≡ reply_of gauge flash → part ≡ take r.replied whole → v ≡ block_in 36 part w → v ≡ block_in 36 (effect_of f (read command count) gauge flash).reply w
  read_lent f r whole part w v known all cut laid = laid ∙ rw (cut, all, known flash, (read_brings f).0)

  -- and stands at the front of 36 lent bytes
  pub read_back : (f : Fate) (w : List ℕ) → length w ≡ 36
      → take (length (effect_of f (read command count) gauge flash).reply) (block_in 36 (effect_of f (read command count) gauge flash).reply w) ≡ (effect_of f (read command count) gauge flash).reply
  read_back f w long =
      let few = (read_brings f).1 in
      rw (block_whole 36 (effect_of f (read command count) gauge flash).reply w few (omega arith)) (take_over (effect_of f (read command count) gauge flash).reply w)

-- three bytes, 32 more and the PEC fill a reply
module _ (lead block w w1 w2 : List ℕ) (led : length lead ≡ 3) (blocked : length block ≡ 32) (long : length w ≡ 36)
    (first : w1 ≡ stored_at 0 3 lead w) (second : w2 ≡ stored_at 3 32 block w1) where
  laid_lead : w1 ≡ over lead w
  laid_lead = first ∙ stored_whole 0 3 lead w (omega arith) (omega arith)

  laid_both : w2 ≡ over (lead ++ block) w
  laid_both =
      let n : length w1 ≡ 36 = ap length laid_lead ∙ length_over lead w (omega arith) ∙ long in
      second ∙ stored_whole 3 32 block w1 (omega arith) (omega arith) ∙ rw laid_lead (laid_more lead block w 3 (sym led))

  both_long : length (lead ++ block) ≡ 35
  both_long = simp length-append (omega arith)

  pub reply_front_lem : take 35 w2 ≡ lead ++ block
  reply_front_lem = rw (laid_both, ← both_long) (take_over (lead ++ block) w)

  pub reply_whole : (b : ℕ) → set w2 35 b ≡ (lead ++ block) ++ (b ∷ [])
  unfolding over
  reply_whole b =
      let n : length w2 ≡ 36 = ap length laid_both ∙ length_over (lead ++ block) w (omega (arith, both_long)) ∙ long in
      let m : length ((lead ++ block) ++ (b ∷ [])) ≡ length w = simp length-append (omega arith) in
      let laid : over (take 35 w2 ++ (b ∷ [])) w2 ≡ over ((lead ++ block) ++ (b ∷ [])) w =
      rw (reply_front_lem, laid_both) (over_over (lead ++ block) ((lead ++ block) ++ (b ∷ [])) w (simp (length-append (lead ++ block)) (omega arith))) in
      let whole : over ((lead ++ block) ++ (b ∷ [])) w ≡ (lead ++ block) ++ (b ∷ []) = rw (m, drop-length, append-nil) in
      over_set w2 35 b (omega arith) ∙ laid ∙ whole
