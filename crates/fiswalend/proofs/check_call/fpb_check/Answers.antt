use Rattle.std.proofs.Common.{ap, ◌∙◌}
use Rattle.judge.specs.Checking.{check_answer, check_finding}
use Rattle.fiswalend.specs.Found.{finding_bytes}
use Rattle.fiswalend.proofs.CheckCalls.{left_17, left_40}
use Rattle.fiswalend.proofs.check_call.fpb_check.Goals as goal

pub returns-then-answer-lt-ANSWER_BYTES : goal.returns-then-answer-lt-ANSWER_BYTES
returns-then-answer-lt-ANSWER_BYTES c =
    left_17 c.args.answer.now (check_finding (check_answer c.args.picture.now)) c.if-answer-lt-ANSWER_BYTES.true

pub returns : goal.returns
returns c =
    left_40 c.args.answer.now (check_finding (check_answer c.args.picture.now)) c.if-answer-lt-ANSWER_BYTES.false
    (c.finding_bytes.ensures ∙ ap finding_bytes (c.check_finding.ensures ∙ ap check_finding c.check.ensures)) c.write.ensures.value c.write.ensures.answer_after
