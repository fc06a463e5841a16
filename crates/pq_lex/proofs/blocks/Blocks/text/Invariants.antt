use Rattle.std.proofs.Common.{◌≡◌, string_bytes, take}
use Rattle.pq_lex.specs.aux.Blocks.{text_of}
use Rattle.pq_lex.proofs.blocks.Blocks.text.Given as goal

abbrev pub invariant-walk : goal.invariant-walk
invariant-walk l = string_bytes l.text ≡ text_of (take l.index l.self-inside.blocks.items)
