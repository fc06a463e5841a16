use Rattle.std.proofs.Common.{◌≡◌, ap, ◌∙◌}
use Rattle.percent_encoding.specs.Percent.{percent_decode}
use Rattle.percent_encoding.specs.declared.DecodeError.TheVariants.{Utf8, OutOfMemory}
use Rattle.pq_session.proofs.UriLemmas.{text_is, no_text}
use Rattle.pq_session.proofs.protocol.uris.decoded.Goals as goal

pub returns-in-Ok : goal.returns-in-Ok
returns-in-Ok c =
    let decodes = c.percent_decode.ensures.bytes ∙ ap percent_decode c.as_bytes.ensures.value in
    text_is _ _ _ decodes c.in-Ok.ensures.ok_only_if_utf8 c.in-Ok.ensures.value

pub returns-in-Err-Utf8 : goal.returns-in-Err-Utf8
returns-in-Err-Utf8 c =
    let decodes = c.percent_decode.ensures.bytes ∙ ap percent_decode c.as_bytes.ensures.value in
    no_text _ _ decodes (λ utf8. let e : c.in-Err-Utf8.field-0 ≡ OutOfMemory = c.in-Err-Utf8.ensures.utf8 utf8 in let is : c.in-Err-Utf8.field-0 ≡ Utf8 c.in-Err-Utf8.field-0-0 = c.in-Err-Utf8.field-0-is in cc)
