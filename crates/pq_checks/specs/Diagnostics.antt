-- The diagnostics of a file (Language Server Protocol 3.17, "Document Diagnostics"): its syntax
-- error, or its errors by the table, each at the span of its place, in order.
use Rattle.std.specs.Prelude.{ℕ, ◌≡◌, Bool, true, false, List, [], ◌∷◌, filter_map, Option, Some, Contains}
use Rattle.std.specs.Option.{option_map}
use Rattle.pq_inputs.specs.Sources.{Sources, file_in}
use Rattle.pq_lex.specs.declared.token.Span.{Span}
use Rattle.pq_syntax.specs.declared.fault.Code.{Code as SyntaxCode}
use Rattle.pq_syntax.specs.declared.fault.Parsed.{Parsed}
use Rattle.pq_syntax.specs.declared.fault.Parsed.TheVariants.{Tree, Fault as SyntaxFault}
use Rattle.pq_syntax.specs.declared.tree.Node.{Node}
use Rattle.pq_links.specs.Files.{read_file}
use Rattle.pq_links.specs.Place.{place}
use Rattle.pq_links.specs.declared.files.ParsedFile.{ParsedFile}
use Rattle.pq_links.specs.declared.files.ParsedFile.TheVariants.{Absent, Present}
use Rattle.pq_checks.specs.Codes.{said_code, said_text}
use Rattle.pq_checks.specs.Compile.{AreFaults}
use Rattle.pq_checks.specs.DiagnosticOrder.{diagnostic_cmp}
use Rattle.pq_checks.specs.InOrder.{in_order}
use Rattle.pq_checks.specs.declared.errors.diagnostic.Diagnosed.{Diagnosed}
use Rattle.pq_checks.specs.declared.errors.diagnostic.Diagnostic.{Diagnostic}
use Rattle.pq_checks.specs.declared.errors.fault.Fault.{Fault}

-- `at_span f s` is the error `f`, at the span `s`
abbrev pub at_span : Fault → Span → Diagnostic
at_span f s = record { start = s.start; end = s.end; code = f.code; text = f.text }

-- `diagnostic_at nodes f` is the error `f` at the span of its place in a file with the statements
-- `nodes`, or `None` if the file has no such place (by the law `each_stands` it has)
abbrev pub diagnostic_at : List Node → Fault → Option Diagnostic
diagnostic_at nodes f = option_map (at_span f) (place nodes f.item f.part)

-- `syntax_diagnostic other span c` is the syntax error `c` at `span` of a text, which is of another
-- version of the language if `other`
abbrev pub syntax_diagnostic : Bool → Span → SyntaxCode → Diagnostic
syntax_diagnostic other span c = record { start = span.start; end = span.end; code = said_code other c; text = said_text other c }

-- `parsed_diagnostics other fs p` lists the diagnostics of a text with the tree or syntax error `p`
-- and the errors `fs` by the table: a syntax error is the only one
abbrev pub parsed_diagnostics : Bool → List Fault → Parsed → List Diagnostic
parsed_diagnostics other fs (Tree nodes) = in_order diagnostic_cmp (filter_map (diagnostic_at nodes) fs)
parsed_diagnostics other fs (SyntaxFault span c) = syntax_diagnostic other span c ∷ []

-- `diagnostics_of fs file` lists the diagnostics of a file that is read as `file`, with the errors
-- `fs` by the table; an absent file has none
abbrev pub diagnostics_of : List Fault → ParsedFile → List Diagnostic
diagnostics_of fs Absent = []
diagnostics_of fs (Present p shown lines) = parsed_diagnostics shown.is_other fs p

-- `diagnosed fs file` is these diagnostics with what the file is read as: its lines give positions
abbrev pub diagnosed : List Fault → ParsedFile → Diagnosed
diagnosed fs file = record { diagnostics = diagnostics_of fs file; file = file }

-- `AreDiagnostics loose files f d` is that `d` is the diagnostics of the file `f`, with what it is read as
abbrev pub AreDiagnostics : Bool → Sources → List ℕ → Diagnosed → Type 0
AreDiagnostics loose files f d = (fs : List Fault) × AreFaults loose files f fs × (d ≡ diagnosed fs (read_file loose (file_in files f).text))

-- `is_tree p` is whether the tree or syntax error `p` is a tree
abbrev pub is_tree : Parsed → Bool
is_tree (Tree nodes) = true
is_tree (SyntaxFault span c) = false

-- `has_tree file` is whether a file that is read as `file` has a tree: an absent file has none, nor
-- has one with a syntax error
abbrev pub has_tree : ParsedFile → Bool
has_tree Absent = false
has_tree (Present p shown lines) = is_tree p

-- `AsksErrors checks checked f tree es fs` is that the one question is for the errors of the file
-- `f`, which are `fs`, if it has a `tree`, and that else there is no question and no such error
abbrev pub AsksErrors : {K A : Type 0} → (checks : List ℕ → K) → (A → List Fault) → List ℕ → Bool → List (K × A) → List Fault → Type 0
AsksErrors {A = A} checks checked f true es fs = (a : A) × (es ≡ (checks f, a) ∷ []) × (fs ≡ checked a)
AsksErrors checks checked f false es fs = (es ≡ []) × (fs ≡ [])

-- `AreDiagnosticsBy checks parse checked parsed f es d` is that the first question is for what the
-- file `f` is read as, that one for its errors follows exactly if that is a tree, and that `d` is
-- the diagnostics by their answers
abbrev pub AreDiagnosticsBy : {K A : Type 0} → (checks parse : List ℕ → K) → (A → List Fault) → (A → ParsedFile) → List ℕ → List (K × A) → Diagnosed → Type 0
AreDiagnosticsBy {K = K} {A = A} checks parse checked parsed f es d =
    (b : A) × (rest : List (K × A)) × (fs : List Fault) × (es ≡ (parse f, b) ∷ rest)
    × AsksErrors checks checked f (has_tree (parsed b)) rest fs × (d ≡ diagnosed fs (parsed b))

-- `Stands nodes f` is that a file with the statements `nodes` has the place of the error `f`
abbrev pub Stands : List Node → Fault → Type 0
Stands nodes f = (s : Span) × (place nodes f.item f.part ≡ Some s)

-- `IsDiagnostic other fs p d` is that `d` is the syntax error of a text that is parsed as `p`, or one
-- of the errors `fs` at the span of its place in the tree `p`
abbrev pub IsDiagnostic : Bool → List Fault → Parsed → Diagnostic → Type 0
IsDiagnostic other fs (Tree nodes) d = (f : Fault) × (s : Span) × Contains fs f × (place nodes f.item f.part ≡ Some s) × (d ≡ at_span f s)
IsDiagnostic other fs (SyntaxFault span c) d = d ≡ syntax_diagnostic other span c
