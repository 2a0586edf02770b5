-- 02, Item 11: the numbers of the refusals; those of the first picture are the reading's.
use Rattle.std.specs.Prelude.{ℕ, Result, Ok, Err}
use Rattle.picture.specs.Refusals.{refusal_number}
use Rattle.changes.specs.declared.refusals.HistoryRefusal.{HistoryRefusal}
use Rattle.changes.specs.declared.refusals.HistoryRefusal.TheVariants.{Unread, MissingByte, OtherByte, RoomFull, AboveLast, BufferShort}

abbrev pub history_number : HistoryRefusal → ℕ
history_number (Unread r) = refusal_number r
history_number MissingByte = 37
history_number OtherByte = 38
history_number RoomFull = 39
history_number AboveLast = 40
history_number BufferShort = 23

-- the number of an answer: 0 where it is no refusal
abbrev pub answer_number : {A : Type 0} → Result A HistoryRefusal → ℕ
answer_number (Ok given) = 0
answer_number (Err r) = history_number r
