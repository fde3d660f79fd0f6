-- The original's reading loops leave what was brought: by induction over the outcomes, each transfer beside its own.
-- Assumes nothing.
use Prim.Native.Nat.{ℕ, ◌+◌, ◌-◌, ◌%◌, ◌≤◌, ◌<◌, min}
use mathlib.Core.Path.{◌≡◌, refl, sym, ap, ◌∙◌}
use mathlib.Core.List.{List, [], ◌∷◌, ◌++◌}
use mathlib.Core.Bool.{Bool, true, false, not, ◌&&◌}
use native.Mathlib.Nat.{le_of_lt}
use native.Mathlib.Omega.{arith}
use lib.ListN.{length, take, drop, get_or, length-append, length-take, length-drop}
use lib.Seq.{take-nil, take_all, take-take}
use lib.Dec.{eqb, ltb}
use borrow.Author.Tests.{ltb-true, ltb-false}
use Rattle.smbus_pec.specs.Pec.{pec_of}
use Rattle.protocol.specs.Pick.{when◌then◌else◌}
use Rattle.protocol.specs.Bytes.{over}
use Rattle.protocol.proofs.Laws.{length_over}
use Rattle.protocol.specs.declared.error.Answer.{Answer}
use Rattle.protocol.specs.declared.error.Answer.TheVariants as answer
use Rattle.original.specs.Bus.{BusOutcome, Acknowledged, BusError, Timeout, delivered, read, Log, made, delayed, Ok, Err, ◌leaving◌, bus_op◌err◌ok◌, copied, transfers_of}
use Rattle.original.specs.OriginalInterface.{read_loop, mac_write_turn, mac_read_turn}
use Rattle.original.specs.Fronts.{plain, mac, data_in, brought, buffer_left}
use Rattle.original.proofs.ReadTurns.{length_delivered}
use Rattle.original.proofs.FlashRead.{loop, count, bad, placed, loop_done, address_waits, address_turn, read_waits, read_turn}
use Rattle.original.proofs.Brought.{drop_take, over_more, data_in_lem, counted, Comes, stopped, waits, as_well, either, stepped, unmoved, filled}

-- nothing is brought yet: the buffer is as it was
pub untouched : (buffer : List ℕ) → buffer ≡ over (take (length buffer) []) buffer
unfolding over
untouched buffer = rw take-nil refl

-- a plain read into `inner`, of which the caller's buffer gets its part
module _ (command : ℕ) (buffer inner : List ℕ) (pec : Bool) (room : length buffer ≤ length inner) where
  abbrev Plain : List BusOutcome → Type 0
  Plain outcomes = (retries : ℕ) (log : Log) → Comes (plain pec command) buffer [] log.transfers outcomes (copied buffer (read_loop retries command inner pec log outcomes))

  plain_fault : (outcomes : List BusOutcome) → Plain outcomes → (retries : ℕ) (why : Answer) (log : Log)
      → Comes (plain pec command) buffer [] log.transfers outcomes (copied buffer (when eqb retries 0 then Err why log outcomes leaving inner else read_loop (retries - 1) command inner pec (delayed log) outcomes))
  unfolding copied transfers_of buffer_left
  plain_fault outcomes ih retries why log =
      either (plain pec command) buffer (copied buffer) [] log.transfers outcomes (eqb retries 0) _ _
      (stopped (plain pec command) buffer [] log.transfers outcomes _ refl (untouched buffer) (λ h. refl)) (ih (retries - 1) (delayed log))

  plain_reply : (outcomes : List BusOutcome) → Plain outcomes → (retries : ℕ) (log : Log) (bytes : List ℕ) (count : ℕ) → count ≡ (when pec then length inner + 1 else length inner)
      → (t : Bool) → pec && not (eqb (get_or (delivered count bytes) (length inner) 0) (pec_of 0 (0x16 ∷ command ∷ 0x17 ∷ take (length inner) (delivered count bytes)))) ≡ t
      → Comes (plain pec command) buffer [] log.transfers (Acknowledged bytes ∷ outcomes) (copied buffer (when t
      then (when eqb retries 0 then Err answer.Pec (made (read command count) log) outcomes leaving inner else read_loop (retries - 1) command inner pec (delayed (made (read command count) log)) outcomes)
      else Ok (made (read command count) log) outcomes leaving take (length inner) (delivered count bytes)))
  unfolding when◌then◌else◌ copied transfers_of buffer_left brought
  plain_reply outcomes ih retries log bytes count c true t =
      unmoved (plain pec command) buffer [] log.transfers (read command count) (Acknowledged bytes) outcomes _
      (data_in_lem (plain pec command) (length inner) (delivered count bytes) (length_delivered count bytes ∙ c) ∙ rw t)
      (plain_fault outcomes ih retries answer.Pec (made (read command count) log))
  plain_reply outcomes ih retries log bytes count c false t =
      let long : length inner ≤ count = rw c (counted pec (length inner)) in
      filled (plain pec command) buffer log.transfers (read command count) (Acknowledged bytes) outcomes _ (take (length inner) (delivered count bytes))
      (data_in_lem (plain pec command) (length inner) (delivered count bytes) (length_delivered count bytes ∙ c) ∙ rw t) (rw (length-take, length_delivered) (omega arith)) refl refl

  pub plain_comes : (outcomes : List BusOutcome) → Plain outcomes
  unfolding read_loop copied bus_op◌err◌ok◌ transfers_of buffer_left brought
  plain_comes [] retries log = waits (plain pec command) buffer [] log.transfers _ _ refl (untouched buffer) (λ h. refl)
  plain_comes (Acknowledged bytes ∷ outcomes) retries log = plain_reply outcomes (plain_comes outcomes) retries log bytes _ refl _ refl
  plain_comes (BusError code ∷ outcomes) retries log = unmoved (plain pec command) buffer [] log.transfers _ (BusError code) outcomes _ refl (plain_fault outcomes (plain_comes outcomes) retries (answer.I2c code) _)
  plain_comes (Timeout ∷ outcomes) retries log = unmoved (plain pec command) buffer [] log.transfers _ Timeout outcomes _ refl (plain_fault outcomes (plain_comes outcomes) retries answer.Timeout _)

-- a read behind a command's frame into `inner`
module _ (frame buffer inner : List ℕ) (pec : Bool) (room : length buffer ≤ length inner) where
  abbrev AtFrame : List BusOutcome → Type 0
  AtFrame outcomes = (retries : ℕ) (log : Log) → Comes (mac pec) buffer [] log.transfers outcomes (copied buffer (mac_write_turn retries pec frame inner log outcomes))

  mac_fault : (outcomes : List BusOutcome) → AtFrame outcomes → (retries : ℕ) (why : Answer) (log : Log)
      → Comes (mac pec) buffer [] log.transfers outcomes (copied buffer (when eqb retries 0 then Err why log outcomes leaving inner else mac_write_turn (retries - 1) pec frame inner (delayed log) outcomes))
  unfolding copied transfers_of buffer_left
  mac_fault outcomes ih retries why log =
      either (mac pec) buffer (copied buffer) [] log.transfers outcomes (eqb retries 0) _ _
      (stopped (mac pec) buffer [] log.transfers outcomes _ refl (untouched buffer) (λ h. refl)) (ih (retries - 1) (delayed log))

  mac_reply : (outcomes : List BusOutcome) → AtFrame outcomes → (retries : ℕ) (log : Log) (bytes : List ℕ) (sent count : ℕ) → count ≡ (when pec then 1 + 2 + length inner + 1 else 1 + 2 + length inner)
      → (t : Bool) → pec && not (eqb (get_or (delivered count bytes) (1 + 2 + length inner) 0) (pec_of 0 (0x16 ∷ 0x44 ∷ 0x17 ∷ take (1 + 2 + length inner) (delivered count bytes)))) ≡ t
      → Comes (mac pec) buffer [] log.transfers (Acknowledged bytes ∷ outcomes) (copied buffer (when t
      then (when eqb retries 0 then Err answer.Pec (made (read sent count) log) outcomes leaving inner else mac_write_turn (retries - 1) pec frame inner (delayed (made (read sent count) log)) outcomes)
      else Ok (made (read sent count) log) outcomes leaving take (length inner) (drop (1 + 2) (delivered count bytes))))
  unfolding when◌then◌else◌ copied transfers_of buffer_left brought
  mac_reply outcomes ih retries log bytes sent count c true t =
      unmoved (mac pec) buffer [] log.transfers (read sent count) (Acknowledged bytes) outcomes _
      (data_in_lem (mac pec) (1 + 2 + length inner) (delivered count bytes) (length_delivered count bytes ∙ c) ∙ rw t)
      (mac_fault outcomes ih retries answer.Pec (made (read sent count) log))
  mac_reply outcomes ih retries log bytes sent count c false t =
      let long : 1 + 2 + length inner ≤ count = rw c (counted pec (1 + 2 + length inner)) in
      filled (mac pec) buffer log.transfers (read sent count) (Acknowledged bytes) outcomes _ (take (length inner) (drop (1 + 2) (delivered count bytes)))
      (data_in_lem (mac pec) (1 + 2 + length inner) (delivered count bytes) (length_delivered count bytes ∙ c) ∙ rw t (drop_take (1 + 2) (length inner) (delivered count bytes)))
      (rw (length-take, length-drop, length_delivered) (omega arith)) refl refl

  mutual
    unfolding mac_write_turn copied bus_op◌err◌ok◌ transfers_of buffer_left brought

    pub mac_comes : (outcomes : List BusOutcome) → AtFrame outcomes
    mac_comes [] retries log = waits (mac pec) buffer [] log.transfers _ _ refl (untouched buffer) (λ h. refl)
    mac_comes (Acknowledged bytes ∷ outcomes) retries log = unmoved (mac pec) buffer [] log.transfers _ (Acknowledged bytes) outcomes _ refl (mac_answered outcomes retries _)
    mac_comes (BusError code ∷ outcomes) retries log =
        unmoved (mac pec) buffer [] log.transfers _ (BusError code) outcomes _ refl (mac_fault outcomes (λ retries log. mac_comes outcomes retries log) retries (answer.I2c code) _)
    mac_comes (Timeout ∷ outcomes) retries log =
        unmoved (mac pec) buffer [] log.transfers _ Timeout outcomes _ refl (mac_fault outcomes (λ retries log. mac_comes outcomes retries log) retries answer.Timeout _)

    mac_answered : (outcomes : List BusOutcome) (retries : ℕ) (log : Log) → Comes (mac pec) buffer [] log.transfers outcomes (copied buffer (mac_read_turn retries pec frame inner log outcomes))
    mac_answered [] retries log = waits (mac pec) buffer [] log.transfers _ _ refl (untouched buffer) (λ h. refl)
    mac_answered (Acknowledged bytes ∷ outcomes) retries log = mac_reply outcomes (λ retries log. mac_comes outcomes retries log) retries log bytes _ _ refl _ refl
    mac_answered (BusError code ∷ outcomes) retries log =
        unmoved (mac pec) buffer [] log.transfers _ (BusError code) outcomes _ refl (mac_fault outcomes (λ retries log. mac_comes outcomes retries log) retries (answer.I2c code) _)
    mac_answered (Timeout ∷ outcomes) retries log =
        unmoved (mac pec) buffer [] log.transfers _ Timeout outcomes _ refl (mac_fault outcomes (λ retries log. mac_comes outcomes retries log) retries answer.Timeout _)

-- how much a data-flash read brings where so much is left
abbrev most : Bool → ℕ → ℕ
most pec left = when pec then 32 else min 32 left

block : (start : ℕ) (pec : Bool) (left : ℕ) (reply : List ℕ) → length reply ≡ count start pec left → data_in (mac pec) reply ≡ (when bad start pec reply then [] else take (most pec left) (drop 3 reply))
unfolding when◌then◌else◌
block start true left reply e =
    data_in_lem (mac true) 35 reply e
    ∙ ap (λ (d : List ℕ). when bad start true reply then [] else d) (drop_take 3 32 reply)
block start false left reply e =
    let l : length reply ≡ 3 + min 32 left = omega arith in
    data_in_lem (mac false) (3 + min 32 left) reply l ∙ drop_take 3 (min 32 left) reply

block_length : (start : ℕ) (pec : Bool) (left : ℕ) (reply : List ℕ) → length reply ≡ count start pec left → length (take (most pec left) (drop 3 reply)) ≡ most pec left
unfolding when◌then◌else◌
block_length start true left reply e = rw (length-take, length-drop) (omega arith)
block_length start false left reply e = rw (length-take, length-drop) (omega arith)

-- it is stored as far as there is room
block_room : (pec : Bool) (left : ℕ) → min 32 left ≡ min left (most pec left)
unfolding when◌then◌else◌
block_room true left = omega arith
block_room false left = omega arith

block_least : (pec : Bool) (left : ℕ) → min 32 left ≤ most pec left
unfolding when◌then◌else◌
block_least true left = omega arith
block_least false left = omega arith

-- so much is there then: all, or whole blocks
reached : (pec : Bool) (b n left : ℕ) → left ≡ n - b → b < n → b + min 32 left ≡ min (b + most pec left) n
unfolding when◌then◌else◌
reached true b n left e h = omega arith
reached false b n left e h = omega arith

whole_then : (pec : Bool) (b n left : ℕ) → left ≡ n - b → b % 32 ≡ 0 → b + most pec left < n → (b + most pec left) % 32 ≡ 0
unfolding when◌then◌else◌
whole_then true b n left e w h = omega arith
whole_then false b n left e w h = omega arith

-- the loop over data flash, whose window ends before FFFF
module _ (start : ℕ) (pec : Bool) (buffer : List ℕ) (far : start + length buffer ≤ 0x6000) where
  -- where something is left to read
  abbrev Going : List BusOutcome → Type 0
  Going outcomes = (heading : Bool) (retries : ℕ) (before : List ℕ) (log : Log) → length before < length buffer → length before % 32 ≡ 0
      → Comes (mac pec) buffer before log.transfers outcomes (loop start pec retries (over before buffer) (length before) heading log outcomes)

  -- what was brought before is what stands in front
  in_place : (before : List ℕ) → length before < length buffer → over before buffer ≡ over (take (length buffer) before) buffer
  in_place before h = rw (take_all (length buffer) before (omega arith))

  as_long : (before : List ℕ) → length before < length buffer → length (over before buffer) ≡ length buffer
  as_long before h = length_over before buffer (omega arith)

  flash_fault : (outcomes : List BusOutcome) → Going outcomes → (retries : ℕ) (why : Answer) (before : List ℕ) (log : Log) → length before < length buffer → length before % 32 ≡ 0
      → Comes (mac pec) buffer before log.transfers outcomes
      (when eqb retries 0 then Err why log outcomes leaving over before buffer else loop start pec (retries - 1) (over before buffer) (length before) true (delayed log) outcomes)
  unfolding transfers_of buffer_left
  flash_fault outcomes ih retries why before log h w =
      either (mac pec) buffer (λ r. r) before log.transfers outcomes (eqb retries 0) _ _
      (stopped (mac pec) buffer before log.transfers outcomes _ refl (in_place before h) (λ j. w)) (ih true (retries - 1) before (delayed log) h w)

  -- another block is due, or the buffer is full
  next_block : (outcomes : List BusOutcome) → Going outcomes → (retries at : ℕ) (before : List ℕ) (log : Log) → at ≡ min (length before) (length buffer) → (length before < length buffer → length before % 32 ≡ 0)
      → (t : Bool) → ltb (length before) (length buffer) ≡ t
      → Comes (mac pec) buffer before log.transfers outcomes (loop start pec retries (over (take (length buffer) before) buffer) at false log outcomes)
  unfolding transfers_of buffer_left
  next_block outcomes ih retries at before log e w true t =
      let h : length before < length buffer = ltb-true (length before) (length buffer) t in
      let a : at ≡ length before = omega arith in
      rw (a, ← in_place before h) (ih false retries before log h (w h))
  next_block outcomes ih retries at before log e w false t =
      let h : length buffer ≤ length before = ltb-false (length before) (length buffer) t in
      let l : length (over (take (length buffer) before) buffer) ≡ length buffer = length_over (take (length buffer) before) buffer (rw length-take (omega arith)) in
      rw (loop_done start pec retries (over (take (length buffer) before) buffer) at false log outcomes (omega arith))
      (stopped (mac pec) buffer before log.transfers outcomes _ refl refl w)

  -- the block goes behind what was brought before
  stored : (before reply : List ℕ) (left : ℕ) → left ≡ length buffer - length before → length before < length buffer → length reply ≡ count start pec left
      → placed start (length before) (min 32 left) reply (over before buffer) ≡ over (take (length buffer) (before ++ take (most pec left) (drop 3 reply))) buffer
  stored before reply left e h l =
      let k : min 32 left ≡ min (length buffer - length before) (length (take (most pec left) (drop 3 reply))) = block_room pec left ∙ rw (block_length start pec left reply l, ← e) in
      ap (λ (d : List ℕ). take (length before) (over before buffer) ++ d ++ drop (length before + min 32 left) (over before buffer))
      (sym (take-take (min 32 left) (most pec left) (drop 3 reply) (block_least pec left)))
      ∙ over_more before (take (most pec left) (drop 3 reply)) buffer (min 32 left) (le_of_lt h) k

  -- a reply is weighed
  flash_reply : (outcomes : List BusOutcome) → Going outcomes → (retries : ℕ) (before : List ℕ) (log : Log) (bytes : List ℕ) (left : ℕ) → left ≡ length buffer - length before
      → length before < length buffer → length before % 32 ≡ 0 → (t : Bool) → bad start pec (delivered (count start pec left) bytes) ≡ t
      → Comes (mac pec) buffer before log.transfers (Acknowledged bytes ∷ outcomes)
      (when t then (when eqb retries 0 then Err answer.Pec (made (read 0x44 (count start pec left)) log) outcomes leaving over before buffer
      else loop start pec (retries - 1) (over before buffer) (length before) true (delayed (made (read 0x44 (count start pec left)) log)) outcomes)
      else loop start pec retries (placed start (length before) (min 32 left) (delivered (count start pec left) bytes) (over before buffer)) (length before + min 32 left) false (made (read 0x44 (count start pec left)) log) outcomes)
  unfolding when◌then◌else◌ brought
  flash_reply outcomes ih retries before log bytes left e h w true t =
      unmoved (mac pec) buffer before log.transfers (read 0x44 (count start pec left)) (Acknowledged bytes) outcomes _
      (block start pec left (delivered (count start pec left) bytes) (length_delivered _ bytes) ∙ rw t)
      (flash_fault outcomes ih retries answer.Pec before (made (read 0x44 (count start pec left)) log) h w)
  flash_reply outcomes ih retries before log bytes left e h w false t =
      let l : length (delivered (count start pec left) bytes) ≡ count start pec left = length_delivered (count start pec left) bytes in
      let d : data_in (mac pec) (delivered (count start pec left) bytes) ≡ take (most pec left) (drop 3 (delivered (count start pec left) bytes))
      = block start pec left (delivered (count start pec left) bytes) l ∙ rw t in
      let all : length (before ++ take (most pec left) (drop 3 (delivered (count start pec left) bytes))) ≡ length before + most pec left
      = length-append before _ ∙ ap (λ (n : ℕ). length before + n) (block_length start pec left (delivered (count start pec left) bytes) l) in
      stepped (mac pec) buffer before log.transfers (read 0x44 (count start pec left)) (Acknowledged bytes) outcomes _
      (rw (d, stored before (delivered (count start pec left) bytes) left e h l)
      (next_block outcomes ih retries (length before + min 32 left) (before ++ take (most pec left) (drop 3 (delivered (count start pec left) bytes))) (made (read 0x44 (count start pec left)) log)
      (rw all (reached pec (length before) (length buffer) left e h)) (rw all (whole_then pec (length before) (length buffer) left e w)) _ refl))

  pub flash_comes : (outcomes : List BusOutcome) → Going outcomes
  unfolding bus_op◌err◌ok◌ transfers_of buffer_left brought
  flash_comes [] true retries before log h w =
      let l : length (over before buffer) ≡ length buffer = as_long before h in
      as_well (mac pec) buffer before log.transfers [] _ _ (address_waits start retries (over before buffer) (length before) log (omega arith) pec (omega arith))
      (waits (mac pec) buffer before log.transfers _ _ refl (in_place before h) (λ j. w))
  flash_comes [] false retries before log h w =
      let l : length (over before buffer) ≡ length buffer = as_long before h in
      as_well (mac pec) buffer before log.transfers [] _ _ (read_waits start retries (over before buffer) (length before) log (omega arith) pec)
      (waits (mac pec) buffer before log.transfers _ _ refl (in_place before h) (λ j. w))
  flash_comes (Acknowledged bytes ∷ outcomes) true retries before log h w =
      let l : length (over before buffer) ≡ length buffer = as_long before h in
      as_well (mac pec) buffer before log.transfers (Acknowledged bytes ∷ outcomes) _ _ (address_turn start retries (over before buffer) (length before) log (omega arith) pec (Acknowledged bytes) outcomes (omega arith))
      (unmoved (mac pec) buffer before log.transfers _ (Acknowledged bytes) outcomes _ refl (flash_comes outcomes false retries before _ h w))
  flash_comes (Acknowledged bytes ∷ outcomes) false retries before log h w =
      let l : length (over before buffer) ≡ length buffer = as_long before h in
      as_well (mac pec) buffer before log.transfers (Acknowledged bytes ∷ outcomes) _ _ (read_turn start retries (over before buffer) (length before) log (omega arith) pec (Acknowledged bytes) outcomes)
      (flash_reply outcomes (flash_comes outcomes) retries before log bytes _ (rw l) h w _ refl)
  flash_comes (BusError code ∷ outcomes) true retries before log h w =
      let l : length (over before buffer) ≡ length buffer = as_long before h in
      as_well (mac pec) buffer before log.transfers (BusError code ∷ outcomes) _ _ (address_turn start retries (over before buffer) (length before) log (omega arith) pec (BusError code) outcomes (omega arith))
      (unmoved (mac pec) buffer before log.transfers _ (BusError code) outcomes _ refl (flash_fault outcomes (flash_comes outcomes) retries (answer.I2c code) before _ h w))
  flash_comes (BusError code ∷ outcomes) false retries before log h w =
      let l : length (over before buffer) ≡ length buffer = as_long before h in
      as_well (mac pec) buffer before log.transfers (BusError code ∷ outcomes) _ _ (read_turn start retries (over before buffer) (length before) log (omega arith) pec (BusError code) outcomes)
      (unmoved (mac pec) buffer before log.transfers _ (BusError code) outcomes _ refl (flash_fault outcomes (flash_comes outcomes) retries (answer.I2c code) before _ h w))
  flash_comes (Timeout ∷ outcomes) true retries before log h w =
      let l : length (over before buffer) ≡ length buffer = as_long before h in
      as_well (mac pec) buffer before log.transfers (Timeout ∷ outcomes) _ _ (address_turn start retries (over before buffer) (length before) log (omega arith) pec Timeout outcomes (omega arith))
      (unmoved (mac pec) buffer before log.transfers _ Timeout outcomes _ refl (flash_fault outcomes (flash_comes outcomes) retries answer.Timeout before _ h w))
  flash_comes (Timeout ∷ outcomes) false retries before log h w =
      let l : length (over before buffer) ≡ length buffer = as_long before h in
      as_well (mac pec) buffer before log.transfers (Timeout ∷ outcomes) _ _ (read_turn start retries (over before buffer) (length before) log (omega arith) pec Timeout outcomes)
      (unmoved (mac pec) buffer before log.transfers _ Timeout outcomes _ refl (flash_fault outcomes (flash_comes outcomes) retries answer.Timeout before _ h w))
