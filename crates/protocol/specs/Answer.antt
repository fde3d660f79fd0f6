-- The number and the detail of each answer. (01, the table of answers; 02, W-210)
-- Assumes nothing.
use Rattle.std.specs.Prelude.{ℕ}
use Rattle.protocol.specs.declared.error.Answer.{Answer}
use Rattle.protocol.specs.declared.error.Answer.TheVariants as answer

-- the row of the table
abbrev pub number_of : Answer → ℕ
number_of answer.Done = 0
number_of (answer.I2c code) = 1
number_of answer.Timeout = 2
number_of answer.Pec = 3
number_of answer.DataTooLarge = 4
number_of answer.DataFlashAddressOutOfRange = 5
number_of (answer.PartialDataFlashWrite committed) = 6
number_of answer.NotACommand = 7
number_of answer.WrongBuffer = 8
number_of answer.WrongReply = 9
number_of answer.NothingOutstanding = 10
number_of answer.BadLine = 11
number_of answer.RetiredKind = 15

-- the bus error's code, the bytes committed, else 0
abbrev pub detail_of : Answer → ℕ
detail_of answer.Done = 0
detail_of (answer.I2c code) = code
detail_of answer.Timeout = 0
detail_of answer.Pec = 0
detail_of answer.DataTooLarge = 0
detail_of answer.DataFlashAddressOutOfRange = 0
detail_of (answer.PartialDataFlashWrite committed) = committed
detail_of answer.NotACommand = 0
detail_of answer.WrongBuffer = 0
detail_of answer.WrongReply = 0
detail_of answer.NothingOutstanding = 0
detail_of answer.BadLine = 0
detail_of answer.RetiredKind = 0
