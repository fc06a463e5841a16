-- A frame whose header part and body are written apart.
use Rattle.std.proofs.Common.{◌≡◌, ℕ, ◌+◌, List, ◌++◌, Option, length, drop, sym, ◌∙◌, ap, subst, append_assoc}
use Rattle.std.proofs.Transfers.{starts_with_of_append}
use Rattle.std.specs.Io.{StartsWith}
use Rattle.std.specs.Io.KnownBytes.{Appends}
use Rattle.std.specs.Prelude.{Result, Ok, Err, MatchResult, OnOk, IfErr}
use Rattle.pq_frame.specs.Written.{written, header_text}
use Rattle.pq_session.specs.declared.fault.ScriptFault.{ScriptFault}
use Rattle.pq_session.specs.declared.fault.ScriptFault.TheVariants.{Write}
use Rattle.pq_session.specs.Script.{StopsWriting}
use Rattle.pq_session.proofs.Known.{appends_more}
use Rattle.pq_session.proofs.OutputLemmas.{starts_rest}

-- the header part, and then the body
whole_sent : (a b c : Option (List ℕ)) (header body : List ℕ) → header ≡ header_text (length body) → Appends a b header → Appends b c body → Appends a c (written body)
unfolding written
whole_sent a b c header body same h k = subst (λ (s : List ℕ). Appends a c (s ++ body)) same (appends_more a b c header body h k)

-- a prefix of the header part
pub header_stops : (header body out : List ℕ) → header ≡ header_text (length body) → StartsWith header out → StartsWith (written body) out
unfolding written
header_stops header body out same h =
    starts_with_of_append (written body) out (drop (length out) header ++ body)
    (ap (λ (s : List ℕ). s ++ body) (sym same ∙ starts_rest out header h) ∙ append_assoc out (drop (length out) header) body)

-- the header part, and a prefix of the body
body_stops : (header body out : List ℕ) → header ≡ header_text (length body) → StartsWith body out → StartsWith (written body) (header ++ out)
unfolding written
body_stops header body out same h =
    starts_with_of_append (written body) (header ++ out) (drop (length out) body)
    (ap (λ (s : List ℕ). s ++ body) (sym same) ∙ ap (λ (s : List ℕ). header ++ s) (starts_rest out body h) ∙ sym (append_assoc header out (drop (length out) body)))

pub body_sent : {A : Type 0} (result : Result A ScriptFault) (a b c : Option (List ℕ)) (header body : List ℕ) (before after : ℕ) → header ≡ header_text (length body) → Appends a b header → MatchResult result (λ _. Appends b c body × (after ≡ before)) (λ e. (e ≡ Write) × (after ≡ before + 1) × ((out : List ℕ) × StartsWith body out × Appends b c out)) → OnOk result (Appends a c (written body))
body_sent (Ok x) a b c header body before after same h (k, _) = whole_sent a b c header body same h k
body_sent (Err e) a b c header body before after same h k = tt

pub body_fails : {A : Type 0} (result : Result A ScriptFault) (a b c : Option (List ℕ)) (header body : List ℕ) (before after : ℕ) → header ≡ header_text (length body) → Appends a b header → MatchResult result (λ _. Appends b c body × (after ≡ before)) (λ e. (e ≡ Write) × (after ≡ before + 1) × ((out : List ℕ) × StartsWith body out × Appends b c out)) → IfErr result (λ e. (out : List ℕ) × StopsWriting (written body) out e × Appends a c out)
body_fails (Ok x) a b c header body before after same h k = tt
body_fails (Err e) a b c header body before after same h (is, _, (out, part, k)) =
    rw is (header ++ out, body_stops header body out same part, appends_more a b c header out h k)
