-- How a line comes about: the digits of its first part, those of its second in the tail after them, and the line feed.
-- Assumes nothing.
use Prim.Native.Nat.{ℕ, ◌+◌, ◌-◌, ◌*◌, ◌/◌, ◌≤◌, ◌<◌}
use mathlib.Core.Path.{◌≡◌, sym, ap, ◌∙◌}
use mathlib.Core.List.{List, [], ◌∷◌, ◌++◌}
use native.Mathlib.Omega.{arith}
use lib.ListN.{length, take, drop, set, length-append, length-drop}
use borrow.Author.Tests.{le-ltb}
use Rattle.hexadecimal.specs.Line.{feed_bytes}
use Rattle.protocol.specs.Pick.{when◌then◌else◌}
use Rattle.hexadecimal.specs.Hex.{hex_of, out_encoded}
use Rattle.hexadecimal.proofs.Laws.{hex_append, length_hex}
use Rattle.protocol.specs.Bytes.{over}
use Rattle.protocol.proofs.Laws.{over_set, take_over, over_over, length_over, laid_more, lent_back}

-- with room, the digits lie over the front
pub encoded_over : (s out : List ℕ) → length s * 2 ≤ length out → out_encoded s out ≡ over (hex_of s) out
unfolding out_encoded when◌then◌else◌ over
encoded_over s out h =
    let le : length s ≤ length out / 2 = omega arith in
    rw (le-ltb (length out / 2) (length s) le)

pub length_feed : (s : List ℕ) → length (feed_bytes s) ≡ length s * 2 + 1
unfolding feed_bytes
length_feed s = length-append (hex_of s) (10 ∷ []) ∙ ap (λ (n : ℕ). n + 1) (length_hex s)

-- the digits of both parts
two_parts : (head body out w ys : List ℕ) (a : ℕ) → a ≡ length head * 2 → (length head + length body) * 2 ≤ length out → w ≡ out_encoded head out
    → ys ≡ out_encoded body (take (length w - a) (drop a w)) → take a w ++ (ys ++ drop (length w - a) (drop a w)) ≡ over (hex_of (head ++ body)) out
two_parts head body out w ys a e h p q =
    let fits : length head * 2 ≤ length out = omega arith in
    let p' : w ≡ over (hex_of head) out = p ∙ encoded_over head out fits in
    let room : length (hex_of head) ≤ length out = omega (arith, length_hex head) in
    let n : length w ≡ length out = ap length p' ∙ length_over (hex_of head) out room in
    let m : length (drop a w) ≡ length w - a = length-drop a w in
    let rest : length body * 2 ≤ length (drop a w) = omega arith in
    lent_back (out_encoded body) a w ys q
    ∙ ap (λ (t : List ℕ). take a w ++ t) (encoded_over body (drop a w) rest)
    ∙ rw (p', hex_append) (laid_more (hex_of head) (hex_of body) out a (e ∙ sym (length_hex head)))

-- and the line feed
pub laid_line : (head body out w ys : List ℕ) (a : ℕ) → a ≡ length head * 2 → (length head + length body) * 2 + 1 ≤ length out → w ≡ out_encoded head out
    → ys ≡ out_encoded body (take (length w - a) (drop a w))
    → set (take a w ++ (ys ++ drop (length w - a) (drop a w))) (a + length body * 2) 10 ≡ over (feed_bytes (head ++ body)) out
unfolding feed_bytes
laid_line head body out w ys a e h p q =
    let f : List ℕ = hex_of (head ++ body) in
    let n : a + length body * 2 ≡ length f = omega (arith, length_hex (head ++ body), length-append head body) in
    let room : length f ≤ length out = omega arith in
    let more : length f ≤ length (f ++ (10 ∷ [])) = rw length-append (omega arith) in
    let space : length f < length (over f out) = rw (length_over f out room) (omega arith) in
    rw (two_parts head body out w ys a e (omega arith) p q, n)
    (over_set (over f out) (length f) 10 space ∙ rw take_over (over_over f (f ++ (10 ∷ [])) out more))
