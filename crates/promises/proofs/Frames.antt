-- The frames that a call makes of a block or of an address are those that the model's laws speak of, with a PEC or without.
-- Assumes nothing.
use Prim.Native.Nat.{ℕ, ◌+◌, ◌-◌, ◌/◌, ◌%◌, ◌≤◌, ◌<◌, min}
use mathlib.Core.Path.{◌≡◌, refl, sym, ap, ◌∙◌}
use mathlib.Core.Bool.{Bool}
use mathlib.Core.List.{List, [], ◌++◌}
use native.Mathlib.Omega.{arith}
use lib.ListN.{length, take, drop}
use lib.Seq.{take-length}
use Rattle.protocol.specs.Frame.{sealed, pair_of, mac_bytes}
use Rattle.engine.specs.Made.{write}
use Rattle.model_gauge.specs.Forms.{counted}
use Rattle.model_gauge.specs.Gauge.{Effect, taken as taking, acts, stored, effect_of}
use Rattle.model_gauge.specs.declared.gauge.Gauge.{Gauge}
use Rattle.model_gauge.proofs.Taken.{taken}
use Rattle.promises.specs.Flash.{store}

-- a MAC frame whose pair is a number, in the model's words
counts : (pec : Bool) (a : ℕ) (bytes : List ℕ) → length bytes ≤ 32 → a < 65536 → sealed pec (mac_bytes (pair_of a) bytes) ≡ counted pec (a % 256) (a / 256) bytes
unfolding mac_bytes pair_of
counts pec a bytes few small =
    let count : (length bytes + 2) % 256 ≡ length bytes + 2 = omega arith in
    let high : a / 256 % 256 ≡ a / 256 = omega arith in
    rw (count, high)

-- a block that lies in the window: the gauge takes it, stores it at its address, and points where it did
module _ (pec : Bool) (a : ℕ) (bytes : List ℕ) (some : 0 < length bytes) (few : length bytes ≤ 32) (low : 0x4000 ≤ a) (high : a + length bytes ≤ 0x6000) where
  -- with room for so many of its bytes
  block_sent : (gauge : Gauge) (flash : List ℕ) (room : ℕ) → room ≡ min (length bytes) (length flash - (a - 0x4000))
      → acts (write (sealed pec (mac_bytes (pair_of a) bytes))) gauge flash ≡ taking [] gauge (take (a - 0x4000) flash ++ take room bytes ++ drop (a - 0x4000 + room) flash)
  unfolding effect_of
  block_sent gauge flash room fits =
      rw (counts pec a bytes few (omega arith)) (taken.block pec (a % 256) (a / 256) a room bytes flash gauge (omega arith) fits (omega arith) few low high)

  pub block_acts : (gauge : Gauge) (flash : List ℕ)
      → acts (write (sealed pec (mac_bytes (pair_of a) bytes))) gauge flash ≡ taking [] gauge (stored (sealed pec (mac_bytes (pair_of a) bytes)) flash)
  unfolding stored
  block_acts gauge flash =
      block_sent gauge flash _ refl ∙ sym (ap (λ (e : Effect). taking [] gauge e.flash) (block_sent _ flash _ refl))

  pub stores_block : (flash : List ℕ) → length flash ≡ 8192 → stored (sealed pec (mac_bytes (pair_of a) bytes)) flash ≡ store flash (a - 0x4000) bytes
  unfolding stored store
  stores_block flash whole =
      ap (λ (e : Effect). e.flash) (block_sent _ flash (length bytes) (omega arith))
      ∙ ap (λ (l : List ℕ). take (a - 0x4000) flash ++ l ++ drop (a - 0x4000 + length bytes) flash) (take-length bytes)

-- an address in the window: the gauge takes it, points there, and stores nothing
module _ (pec : Bool) (a : ℕ) (low : 0x4000 ≤ a) (high : a < 0x6000) where
  pub address_acts : (gauge : Gauge) (flash : List ℕ) → acts (write (sealed pec (mac_bytes (pair_of a) []))) gauge flash ≡ taking [] (record { pointer = a }) flash
  unfolding effect_of
  address_acts gauge flash = rw (counts pec a [] (omega arith) (omega arith)) (taken.address pec (a % 256) (a / 256) a flash gauge (omega arith) low high)

  pub address_points : (gauge : Gauge) (flash : List ℕ) → (acts (write (sealed pec (mac_bytes (pair_of a) []))) gauge flash).gauge ≡ record { pointer = a }
  address_points gauge flash = ap (λ (e : Effect). e.gauge) (address_acts gauge flash)

  pub address_stores : (flash : List ℕ) → stored (sealed pec (mac_bytes (pair_of a) [])) flash ≡ flash
  unfolding stored
  address_stores flash = ap (λ (e : Effect). e.flash) (address_acts _ flash)
