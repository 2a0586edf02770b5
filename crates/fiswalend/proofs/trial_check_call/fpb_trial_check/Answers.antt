use Rattle.std.proofs.Common.{ap, ◌∙◌}
use Rattle.judge.specs.Checking.{check_finding}
use Rattle.judge.specs.Trying.{trial_check}
use Rattle.fiswalend.specs.Found.{finding_bytes}
use Rattle.fiswalend.proofs.CheckCalls.{left_17, left_40}
use Rattle.fiswalend.proofs.trial_check_call.fpb_trial_check.Goals as goal

pub returns-then-answer-lt-ANSWER_BYTES : goal.returns-then-answer-lt-ANSWER_BYTES
returns-then-answer-lt-ANSWER_BYTES c =
    left_17 c.args.answer.now (check_finding (trial_check c.args.picture.now c.args.patch.now)) c.if-answer-lt-ANSWER_BYTES.true

pub returns : goal.returns
returns c =
    left_40 c.args.answer.now (check_finding (trial_check c.args.picture.now c.args.patch.now)) c.if-answer-lt-ANSWER_BYTES.false
    (c.finding_bytes.ensures ∙ ap finding_bytes (c.check_finding.ensures ∙ ap check_finding c.trial_check.ensures)) c.write.ensures.value c.write.ensures.answer_after
