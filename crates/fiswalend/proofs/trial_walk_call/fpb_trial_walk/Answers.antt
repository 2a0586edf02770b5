use Rattle.judge.specs.Trying.{TrialGives}
use Rattle.fiswalend.proofs.WalkCalls.{trial_crossings_few, fits_its_byte, leaves_40}
use Rattle.fiswalend.proofs.trial_walk_call.fpb_trial_walk.Goals as goal

pub walk_bytes-requires : goal.walk_bytes-requires
walk_bytes-requires c =
    fits_its_byte c.trial_walk.result (trial_crossings_few c.args.picture.now c.args.patch.now c.args.kind c.args.start c.args.target c.trial_walk.result c.trial_walk.ensures)

pub returns : goal.returns
returns c =
    leaves_40 (TrialGives c.args.picture.now c.args.patch.now c.args.kind c.args.start c.args.target) c.args.answer.now c.write.result c.write.new.answer
    c.walk_bytes.result c.trial_walk.result c.if-answer-lt-ANSWER_BYTES.false c.trial_walk.ensures c.walk_bytes.ensures c.write.ensures.value c.write.ensures.answer_after
