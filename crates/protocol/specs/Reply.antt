-- What a read asks for, and what its reply must look like. (01, Frames and retries)
-- Assumes nothing.
use Rattle.std.specs.Prelude.{ℕ, ◌+◌, ◌-◌, min, Bool, true, false, List, ◌∷◌, length, take, drop, get_or, eqb, Result, Ok, Err}
use Rattle.smbus_pec.specs.Pec.{pec_of}
use Rattle.protocol.specs.Pick.{when◌then◌else◌}
use Rattle.protocol.specs.declared.reply.Ask.{Ask}
use Rattle.protocol.specs.declared.reply.Unheard.{Unheard}
use Rattle.protocol.specs.declared.reply.Unheard.TheVariants.{WrongLength, WrongPec}

-- a plain read: the reply is data, and the PEC covers the command that was sent
unfoldable pub plain_ask : ℕ → ℕ → Bool → Ask
plain_ask command wanted pec = record { command = command; covered = command; prefixed = false; wanted = wanted; pec = pec }

-- a MAC or data-flash read: length and two address bytes come first and are not examined, and the PEC is worked out with 44
unfoldable pub mac_ask : ℕ → ℕ → Bool → Ask
mac_ask command wanted pec = record { command = command; covered = 0x44; prefixed = true; wanted = wanted; pec = pec }

-- the bytes before the data
unfoldable pub lead_of : Ask → ℕ
lead_of ask = when ask.prefixed then 3 else 0

-- the bytes before the data, and the PEC after it
unfoldable pub around_of : Ask → ℕ
around_of ask = when ask.pec then lead_of ask + 1 else lead_of ask

-- the number asked; it stays at the largest number, which no reply's length reaches
unfoldable pub bytes_asked : Ask → ℕ
bytes_asked ask = min (ask.wanted + around_of ask) 18446744073709551615

-- the PEC of a read covers 16, the command, 17 and the reply before it
unfoldable pub checked_of : ℕ → List ℕ → Bool
checked_of covered reply =
    when eqb (length reply) 0 then false
    else eqb (pec_of 0 (0x16 ∷ covered ∷ 0x17 ∷ take (length reply - 1) reply)) (get_or reply (length reply - 1) 0)

-- a reply is of the number asked, and then believed where its PEC agrees or none was asked
unfoldable pub heard_of : Ask → List ℕ → Result (Unit {0}) Unheard
heard_of ask reply =
    when eqb (bytes_asked ask) (length reply) then
    (when ask.pec then (when checked_of ask.covered reply then Ok tt else Err WrongPec) else Ok tt)
    else Err WrongLength

-- the data of a reply
unfoldable pub data_of : Ask → List ℕ → List ℕ
data_of ask reply = take ask.wanted (drop (lead_of ask) reply)
