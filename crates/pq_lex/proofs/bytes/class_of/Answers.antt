use Rattle.std.proofs.Common.{◌≡◌, map, get_or, refl, ◌∙◌, ap, arith}
use Rattle.std.specs.List.{range_with_len}
use Rattle.std.proofs.lemmas.List.FromFn.{get_or-map-range_with_len}
use Rattle.pq_lex.specs.declared.bytes.Class.TheVariants.{Letter}
use Rattle.pq_lex.specs.declared.bytes.TheConstants.{CLASSES}
use Rattle.pq_lex.specs.Classes.{class_of}
use Rattle.pq_lex.proofs.bytes.class_of.Goals as goal

-- the table has the class of each byte
table_is : CLASSES ≡ map class_of (range_with_len 0 256)
table_is = refl

pub returns : goal.returns
returns c = ap (λ t. get_or t c.args.b Letter) table_is ∙ get_or-map-range_with_len class_of 0 256 c.args.b c.args.b Letter (omega (arith, c.ranges.b.fits)) (omega arith)
