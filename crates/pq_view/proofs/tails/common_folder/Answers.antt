use Rattle.pq_view.proofs.Nearness.{folder_apart, folder_byte, folder_ended_left, folder_ended_right, folder_slash, folder_started}
use Rattle.pq_view.proofs.tails.common_folder.Goals.{then-a-index-eq47, else-a-index-eq47}
use Rattle.pq_view.proofs.tails.common_folder.Goals as goal

pub bytes-init : goal.bytes-init
bytes-init c = folder_started c.args.a.now c.args.b.now

pub returns-then-index-b : goal.returns-then-index-b
returns-then-index-b c = folder_ended_right c.args.a.now c.args.b.now c.bytes.index c.bytes.common c.if-index-b.true c.bytes.invariant

pub returns-then-a-index : goal.returns-then-a-index
returns-then-a-index c =
    folder_apart c.args.a.now c.args.b.now c.bytes.index c.bytes.common c.bytes-test.true c.if-index-b.false c.if-a-index.true c.bytes.invariant

pub bytes-preserved : goal.bytes-preserved
bytes-preserved c = elim c.if-a-index-eq47.branch [
  | then-a-index-eq47 w ↦
      folder_slash c.args.a.now c.args.b.now c.bytes.index c.bytes.common c.if-a-index-eq47.common c.bytes-test.true c.if-index-b.false c.if-a-index.false c.bytes.invariant w.if-a-index-eq47.true w.common-is
  | else-a-index-eq47 w ↦
      folder_byte c.args.a.now c.args.b.now c.bytes.index c.bytes.common c.if-a-index-eq47.common c.bytes-test.true c.if-index-b.false c.if-a-index.false c.bytes.invariant w.if-a-index-eq47.false w.common-is
]

pub returns : goal.returns
returns c = folder_ended_left c.args.a.now c.args.b.now c.bytes.index c.bytes.common c.bytes-test.false c.bytes.invariant
