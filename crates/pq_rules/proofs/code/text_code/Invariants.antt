use Rattle.std.proofs.Common.{◌≡◌, ◌-◌, ◌*◌}
use Rattle.pq_rules.specs.aux.Codes.{words_code, bytes_code}
use Rattle.pq_rules.proofs.code.text_code.Given as goal

-- the code of the words so far
abbrev pub invariant-words : goal.invariant-words
invariant-words l = l.code ≡ words_code l.bytes l.i

-- the code of all words, with the bytes so far after it
abbrev pub invariant-bytes : goal.invariant-bytes
invariant-bytes l =
    l.code ≡ bytes_code l.bytes (words_code l.bytes l.words) (8 * l.words) (l.i - 8 * l.words)
