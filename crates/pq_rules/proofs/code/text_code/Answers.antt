use Rattle.std.proofs.Common.{◌∙◌, ◌/◌, length, refl, arith}
use Rattle.pq_rules.proofs.Codes.{words_none, words_next, bytes_start, bytes_next, bytes_all}
use Rattle.pq_rules.proofs.code.text_code.Goals as goal

pub words-init : goal.words-init
words-init c = words_none c.as_bytes-bytes.result.now

pub words-preserved : goal.words-preserved
words-preserved c =
    words_next c.as_bytes-bytes.result.now c.words.code c.words.i c.word_at.result c.code_with-code.result c.words.invariant c.word_at.ensures.word c.code_with-code.ensures.code

pub bytes-init : goal.bytes-init
bytes-init c =
    bytes_start c.as_bytes-bytes.result.now c.words.code c.words.i (length c.as_bytes-bytes.result.now / 8)
    (omega (arith, c.words-test.false, c.words.auto.i-end)) c.words.invariant

pub bytes-preserved : goal.bytes-preserved
bytes-preserved c =
    bytes_next c.as_bytes-bytes.result.now _ _ c.bytes.code c.bytes.i _ c.code_with-code-in-bytes.result c.bytes.auto.i c.bytes.invariant refl c.code_with-code-in-bytes.ensures.code

pub returns : goal.returns
returns c = record {
  code = bytes_all c.as_bytes-bytes.result.now c.args.text.now c.bytes.code c.bytes.i (c.as_bytes-bytes.ensures.value ∙ c.as_str.ensures.same)
      (omega (arith, c.bytes-test.false, c.bytes.auto.i-end)) c.bytes.invariant;
}
