use Rattle.std.proofs.Common.{string_bytes, ap}
use Rattle.pq_lex.proofs.BlockEdits.{put_one}
use Rattle.pq_lex.proofs.blocks.put.Goals as goal

pub returns-then-len-le-MOST : goal.returns-then-len-le-MOST
returns-then-len-le-MOST c =
    put_one c.args.blocks.items c.args.first c.args.last c.new.result (string_bytes c.args.text) c.args.next c.if-first-last.true c.requires.within (ap (λ b. b.bytes) c.new.ensures) (ap (λ b. b.next) c.new.ensures)
