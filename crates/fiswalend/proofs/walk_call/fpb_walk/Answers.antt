use Rattle.judge.specs.Walking.{WalkGives}
use Rattle.fiswalend.proofs.WalkCalls.{crossings_few, fits_its_byte, leaves_40}
use Rattle.fiswalend.proofs.walk_call.fpb_walk.Goals as goal

pub walk_bytes-requires : goal.walk_bytes-requires
walk_bytes-requires c = fits_its_byte c.walk.result (crossings_few c.args.picture.now c.args.kind c.args.start c.args.target c.walk.result c.walk.ensures)

pub returns : goal.returns
returns c =
    leaves_40 (WalkGives c.args.picture.now c.args.kind c.args.start c.args.target) c.args.answer.now c.write.result c.write.new.answer
    c.walk_bytes.result c.walk.result c.if-answer-lt-ANSWER_BYTES.false c.walk.ensures c.walk_bytes.ensures c.write.ensures.value c.write.ensures.answer_after
