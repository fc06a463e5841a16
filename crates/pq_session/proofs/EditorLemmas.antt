-- Reports and lists that are shown, and notifications that are printed around a list.
use Rattle.std.proofs.Common.{◌≡◌, ℕ, ℤ, pos, negsuc, Bool, true, false, true≢false, not, ◌++◌, List, [], ◌∷◌, Option, Some, None, refl, sym, ◌∙◌, ap, ap₂, append_assoc, append-nil}
use Rattle.std.proofs.lemmas.Bool.{cond-true, cond-false}
use Rattle.std.specs.Prelude.{cond, ◌||◌, filter, flat_map, map, codes, decimal, option_and_then, if◌then◌else◌}
use Rattle.json.specs.Print.{escape_byte}
use Rattle.json.specs.Token.{Token}
use Rattle.serde_json.specs.Data.{Data, string, object, member, no_members}
use Rattle.serde_json.specs.Written.{compact_text}
use Rattle.pq_frame.specs.Labels.{LabelModel, label_data}
use Rattle.pq_links.specs.declared.files.ParsedFile.{ParsedFile}
use Rattle.pq_checks.specs.Codes.{severity, severity_number}
use Rattle.pq_checks.specs.declared.errors.diagnostic.Diagnostic.{Diagnostic}
use Rattle.pq_checks.specs.declared.errors.diagnostic.Diagnosed.{Diagnosed}
use Rattle.pq_proto.specs.Lists.{list_data}
use Rattle.pq_proto.specs.aux.Printed.{tokens_of, values_of}
use Rattle.pq_rules.specs.declared.turn.Answer.TheVariants.{Value, Cycle}
use Rattle.pq_proto.specs.declared.key.ProtoKey.{ProtoKey}
use Rattle.pq_proto.specs.declared.value.Location.{Location}
use Rattle.pq_proto.specs.declared.value.ProtoValue.{ProtoValue}
use Rattle.pq_proto.specs.declared.value.ProtoValue.TheVariants as values
use Rattle.pq_core.specs.declared.values.request.Want.{Want}
use Rattle.pq_core.specs.declared.values.outcome.Outcome.{Outcome}
use Rattle.pq_core.specs.declared.values.outcome.Outcome.TheVariants.{Answered, Plain, Cancelled, Starved, Withdrawn}
use Rattle.pq_core.specs.Replies.{ReplyView}
use Rattle.pq_session.specs.Labels.{label_model}
use Rattle.pq_session.specs.Replies.{value_text, outcome_text, reply_text}
use Rattle.pq_session.specs.Reply.{reply_data, diagnostic_data, diagnostics_text, location_text, definition_text}
use Rattle.pq_session.specs.Uri.{uri_of}
use Rattle.pq_session.specs.Editor.{has_unread, is_unsaid, has_unsaid, is_missing, has_missing, is_shown, shown_message, item_data, shown_data, shown_items, shown_list, shown_text, value_diagnostics, value_location, outcome_value, answered_diagnostics, answered_location, shown_or_text, editor_reply_text, published_text, published_data}
use Rattle.pq_session.specs.aux.Shown.{shown_tokens, printed_data, printed_report, printed_text}
use Rattle.pq_session.specs.declared.protocol.severities.Reader.{Reader}
use Rattle.pq_session.specs.declared.protocol.severities.Reader.TheVariants.{Any, Editor}

-- ---- what is printed

either_empty : (t : Bool) (text : List ℕ) → (if t then text ++ [] else text) ≡ text
either_empty true text = append-nil text
either_empty false text = refl

-- nothing follows the message
plain_message : (f : Diagnostic) → shown_message [] f ≡ f.text
plain_message f = either_empty (is_missing f.code) f.text

-- a diagnostic as it is
pub printed_plain : (number : ℕ) (file : ParsedFile) (f : Diagnostic) → number ≡ severity_number (severity f.code) → item_data number (shown_message [] f) file f ≡ diagnostic_data file f
printed_plain number file f is = ap₂ (λ (n : ℕ) (message : List ℕ). item_data n message file f) is (plain_message f)

values_more : (unread : Bool) (looked : List ℕ) (file : ParsedFile) (holds : Bool) (f : Diagnostic) (fs : List Diagnostic) (rest : List Token) → values_of (map (shown_data unread looked file) fs) ≡ rest
    → values_of (map (shown_data unread looked file) (cond holds (f ∷ fs) fs)) ≡ cond holds (tokens_of (shown_data unread looked file f)) [] ++ rest
values_more unread looked file true f fs rest e = ap (λ (ts : List Token). tokens_of (shown_data unread looked file f) ++ ts) e
values_more unread looked file false f fs rest e = e

-- the tokens of those that a reader gets are the tokens of each that it gets
pub values_shown : (reader : Reader) (looked : List ℕ) (file : ParsedFile) (fs : List Diagnostic) → values_of (printed_data reader looked file fs) ≡ flat_map (shown_tokens reader looked file) fs
values_shown Any looked file [] = refl
values_shown Any looked file (f ∷ fs) = ap (λ (ts : List Token). tokens_of (diagnostic_data file f) ++ ts) (values_shown Any looked file fs)
values_shown (Editor unread) looked file [] = refl
values_shown (Editor unread) looked file (f ∷ fs) =
    values_more unread looked file (is_shown unread f) f (filter (is_shown unread) fs) (flat_map (shown_tokens (Editor unread) looked file) fs) (values_shown (Editor unread) looked file fs)

-- the text of the report
pub text_printed : (label : LabelModel) (reader : Reader) (looked : List ℕ) (d : Diagnosed) (revision : ℕ) → compact_text (reply_data (label_data label) (printed_report reader looked d revision)) ≡ printed_text label reader looked d revision
unfolding shown_text diagnostics_text
text_printed label Any looked d revision = refl
text_printed label (Editor unread) looked d revision = refl

-- ---- where each import is read, and no part is unread

both_false : (a b : Bool) → (a || b) ≡ false → (a ≡ false) × (b ≡ false)
both_false true b e = absurd (true≢false e)
both_false false b e = (refl, e)

told : (t : Bool) (f : Diagnostic) (fs ys : List Diagnostic) → t ≡ false → ys ≡ fs → cond (not t) (f ∷ ys) ys ≡ f ∷ fs
told true f fs ys e same = absurd (true≢false e)
told false f fs ys e same = ap (λ (rest : List Diagnostic). f ∷ rest) same

all_shown : (fs : List Diagnostic) → has_unsaid fs ≡ false → filter (is_shown false) fs ≡ fs
all_shown [] said = refl
all_shown (f ∷ fs) said =
    let both = both_false (is_unsaid f.code) (has_unsaid fs) said in
    told (is_unsaid f.code) f fs (filter (is_shown false) fs) both.0 (all_shown fs both.1)

-- `AsTheyAre looked file fs` is that the messages are those of the diagnostics
abbrev AsTheyAre : List ℕ → ParsedFile → List Diagnostic → Type 0
AsTheyAre looked file fs = map (shown_data false looked file) fs ≡ map (diagnostic_data file) fs

one_more : (looked : List ℕ) (file : ParsedFile) (f : Diagnostic) (fs : List Diagnostic) → shown_message looked f ≡ f.text → AsTheyAre looked file fs → AsTheyAre looked file (f ∷ fs)
one_more looked file f fs message others =
    ap₂ (λ (d : Data) (ds : List Data). d ∷ ds) (ap (λ (m : List ℕ). item_data (severity_number (severity f.code)) m file f) message) others

untold_each : (file : ParsedFile) (fs : List Diagnostic) → AsTheyAre [] file fs
untold_each file [] = refl
untold_each file (f ∷ fs) = one_more [] file f fs (plain_message f) (untold_each file fs)

pub own_message : (looked : List ℕ) (f : Diagnostic) → is_missing f.code ≡ false → shown_message looked f ≡ f.text
own_message looked f found = cond-false _ _ _ found

pub longer_message : (looked : List ℕ) (f : Diagnostic) → is_missing f.code ≡ true → shown_message looked f ≡ f.text ++ looked
longer_message looked f missing = cond-true _ _ _ missing

found_each : (looked : List ℕ) (file : ParsedFile) (fs : List Diagnostic) → has_missing fs ≡ false → AsTheyAre looked file fs
found_each looked file [] found = refl
found_each looked file (f ∷ fs) found =
    let both = both_false (is_missing f.code) (has_missing fs) found in
    one_more looked file f fs (own_message looked f both.0) (found_each looked file fs both.1)

-- each diagnostic is as it is
plain_items : (looked : List ℕ) (d : Diagnosed) → has_unsaid d.diagnostics ≡ false → AsTheyAre looked d.file d.diagnostics → shown_items false looked d ≡ list_data (map (diagnostic_data d.file) d.diagnostics)
plain_items looked d said own = ap list_data (ap (map (shown_data false looked d.file)) (all_shown d.diagnostics said) ∙ own)

-- so is the report
plain_text : (label : LabelModel) (looked : List ℕ) (d : Diagnosed) (revision : ℕ) → has_unsaid d.diagnostics ≡ false → AsTheyAre looked d.file d.diagnostics → shown_text label false looked d revision ≡ diagnostics_text label d revision
unfolding shown_text diagnostics_text
plain_text label looked d revision said own =
    ap (λ (items : Data). compact_text (reply_data (label_data label) (object (member (codes "items") items (member (codes "kind") (string (codes "full")) (member (codes "resultId") (string (decimal revision)) no_members)))))) (plain_items looked d said own)

plain_list : (looked : List ℕ) (d : Diagnosed) → has_unread d.diagnostics ≡ false → has_unsaid d.diagnostics ≡ false → AsTheyAre looked d.file d.diagnostics → shown_list looked d ≡ compact_text (list_data (map (diagnostic_data d.file) d.diagnostics))
unfolding shown_list
plain_list looked d read said own = ap (λ (unread : Bool). compact_text (shown_items unread looked d)) read ∙ ap compact_text (plain_items looked d said own)

pub found_list : (looked : List ℕ) (d : Diagnosed) → has_unread d.diagnostics ≡ false → has_unsaid d.diagnostics ≡ false → has_missing d.diagnostics ≡ false → shown_list looked d ≡ compact_text (list_data (map (diagnostic_data d.file) d.diagnostics))
found_list looked d read said found = plain_list looked d read said (found_each looked d.file d.diagnostics found)

pub untold_list : (d : Diagnosed) → has_unread d.diagnostics ≡ false → has_unsaid d.diagnostics ≡ false → shown_list [] d ≡ compact_text (list_data (map (diagnostic_data d.file) d.diagnostics))
untold_list d read said = plain_list [] d read said (untold_each d.file d.diagnostics)

by_value : (root : List ℕ) (label : LabelModel) (revision : ℕ) (value : ProtoValue) (d : Diagnosed) → value_diagnostics value ≡ Some d → value_text root label revision value ≡ diagnostics_text label d revision
by_value root label revision (values.Diagnostics x) d e = let same : x ≡ d = cc e in ap (λ (y : Diagnosed). diagnostics_text label y revision) same
by_value root label revision (values.Source t) d e = absurd (cc e)
by_value root label revision (values.Parse f) d e = absurd (cc e)
by_value root label revision (values.Items i) d e = absurd (cc e)
by_value root label revision (values.Imports i) d e = absurd (cc e)
by_value root label revision (values.Linked l) d e = absurd (cc e)
by_value root label revision (values.Defs x) d e = absurd (cc e)
by_value root label revision (values.Scope s) d e = absurd (cc e)
by_value root label revision (values.Resolved r) d e = absurd (cc e)
by_value root label revision (values.Checks f) d e = absurd (cc e)
by_value root label revision (values.Descriptor t) d e = absurd (cc e)
by_value root label revision (values.Symbols t) d e = absurd (cc e)
by_value root label revision (values.Definition l) d e = absurd (cc e)

by_outcome : {M : Type 0} (root : List ℕ) (label : LabelModel) (want : Want ProtoKey) (revision : ℕ) (outcome : Outcome ProtoKey ProtoValue M) (d : Diagnosed) → option_and_then value_diagnostics (outcome_value outcome) ≡ Some d → outcome_text root label want revision outcome ≡ diagnostics_text label d revision
by_outcome root label want revision (Answered (Value value) stamp) d e = by_value root label revision value d e
by_outcome root label want revision (Answered (Cycle ring) stamp) d e = absurd (cc e)
by_outcome root label want revision Plain d e = absurd (cc e)
by_outcome root label want revision (Cancelled started seen) d e = absurd (cc e)
by_outcome root label want revision Starved d e = absurd (cc e)
by_outcome root label want revision Withdrawn d e = absurd (cc e)

plain_reply : {M : Type 0} (uri looked root : List ℕ) (reply : ReplyView ProtoKey ProtoValue M) (d : Diagnosed) → answered_diagnostics reply ≡ Some d → has_unread d.diagnostics ≡ false → has_unsaid d.diagnostics ≡ false → AsTheyAre looked d.file d.diagnostics → editor_reply_text uri looked reply ≡ reply_text root reply
plain_reply uri looked root reply d answers read said own =
    let label = label_model reply.request.label in
    ap (λ (answered : Option Diagnosed). shown_or_text uri looked reply answered (answered_location reply)) answers
    ∙ ap (λ (unread : Bool). shown_text label unread looked d reply.revision) read
    ∙ plain_text label looked d reply.revision said own
    ∙ sym (by_outcome root label reply.request.want reply.revision reply.outcome d answers)

pub found_reply : {M : Type 0} (uri looked root : List ℕ) (reply : ReplyView ProtoKey ProtoValue M) (d : Diagnosed) → answered_diagnostics reply ≡ Some d → has_unread d.diagnostics ≡ false → has_unsaid d.diagnostics ≡ false → has_missing d.diagnostics ≡ false → editor_reply_text uri looked reply ≡ reply_text root reply
found_reply uri looked root reply d answers read said found = plain_reply uri looked root reply d answers read said (found_each looked d.file d.diagnostics found)

pub untold_reply : {M : Type 0} (uri root : List ℕ) (reply : ReplyView ProtoKey ProtoValue M) (d : Diagnosed) → answered_diagnostics reply ≡ Some d → has_unread d.diagnostics ≡ false → has_unsaid d.diagnostics ≡ false → editor_reply_text uri [] reply ≡ reply_text root reply
untold_reply uri root reply d answers read said = plain_reply uri [] root reply d answers read said (untold_each d.file d.diagnostics)

-- ---- locations

none_shown : (value : ProtoValue) (l : Location) → value_location value ≡ Some l → value_diagnostics value ≡ None
none_shown (values.Definition d) l e = refl
none_shown (values.Diagnostics x) l e = absurd (cc e)
none_shown (values.Source t) l e = refl
none_shown (values.Parse f) l e = refl
none_shown (values.Items i) l e = refl
none_shown (values.Imports i) l e = refl
none_shown (values.Linked x) l e = refl
none_shown (values.Defs x) l e = refl
none_shown (values.Scope s) l e = refl
none_shown (values.Resolved r) l e = refl
none_shown (values.Checks f) l e = refl
none_shown (values.Descriptor t) l e = refl
none_shown (values.Symbols t) l e = refl

value_located : (root : List ℕ) (label : LabelModel) (revision : ℕ) (value : ProtoValue) (l : Location) → value_location value ≡ Some l → value_text root label revision value ≡ location_text label root l
value_located root label revision (values.Definition d) l e = ap (definition_text label root) e
value_located root label revision (values.Diagnostics x) l e = absurd (cc e)
value_located root label revision (values.Source t) l e = absurd (cc e)
value_located root label revision (values.Parse f) l e = absurd (cc e)
value_located root label revision (values.Items i) l e = absurd (cc e)
value_located root label revision (values.Imports i) l e = absurd (cc e)
value_located root label revision (values.Linked x) l e = absurd (cc e)
value_located root label revision (values.Defs x) l e = absurd (cc e)
value_located root label revision (values.Scope s) l e = absurd (cc e)
value_located root label revision (values.Resolved r) l e = absurd (cc e)
value_located root label revision (values.Checks f) l e = absurd (cc e)
value_located root label revision (values.Descriptor t) l e = absurd (cc e)
value_located root label revision (values.Symbols t) l e = absurd (cc e)

outcome_unshown : {M : Type 0} (outcome : Outcome ProtoKey ProtoValue M) (l : Location) → option_and_then value_location (outcome_value outcome) ≡ Some l → option_and_then value_diagnostics (outcome_value outcome) ≡ None
outcome_unshown (Answered (Value value) stamp) l e = none_shown value l e
outcome_unshown (Answered (Cycle ring) stamp) l e = refl
outcome_unshown Plain l e = refl
outcome_unshown (Cancelled started seen) l e = refl
outcome_unshown Starved l e = refl
outcome_unshown Withdrawn l e = refl

outcome_located : {M : Type 0} (root : List ℕ) (label : LabelModel) (want : Want ProtoKey) (revision : ℕ) (outcome : Outcome ProtoKey ProtoValue M) (l : Location) → option_and_then value_location (outcome_value outcome) ≡ Some l → outcome_text root label want revision outcome ≡ location_text label root l
outcome_located root label want revision (Answered (Value value) stamp) l e = value_located root label revision value l e
outcome_located root label want revision (Answered (Cycle ring) stamp) l e = absurd (cc e)
outcome_located root label want revision Plain l e = absurd (cc e)
outcome_located root label want revision (Cancelled started seen) l e = absurd (cc e)
outcome_located root label want revision Starved l e = absurd (cc e)
outcome_located root label want revision Withdrawn l e = absurd (cc e)

-- with the URI below a root, a definition is that of a session with the root
pub located_reply : {M : Type 0} (looked root : List ℕ) (reply : ReplyView ProtoKey ProtoValue M) (l : Location) → answered_location reply ≡ Some l → editor_reply_text (uri_of root l.file) looked reply ≡ reply_text root reply
located_reply looked root reply l answers =
    let label = label_model reply.request.label in
    let uri = uri_of root l.file in
    ap (λ (answered : Option Diagnosed). shown_or_text uri looked reply answered (answered_location reply)) (outcome_unshown reply.outcome l answers)
    ∙ ap (λ (place : Option Location). shown_or_text uri looked reply None place) answers
    ∙ sym (outcome_located root label reply.request.want reply.revision reply.outcome l answers)

-- the text of any other value has no URI
value_rootless : (first root : List ℕ) (label : LabelModel) (revision : ℕ) (value : ProtoValue) → value_location value ≡ None → value_text first label revision value ≡ value_text root label revision value
value_rootless first root label revision (values.Definition None) e = refl
value_rootless first root label revision (values.Definition (Some l)) e = absurd (cc e)
value_rootless first root label revision (values.Diagnostics x) e = refl
value_rootless first root label revision (values.Source t) e = refl
value_rootless first root label revision (values.Parse f) e = refl
value_rootless first root label revision (values.Items i) e = refl
value_rootless first root label revision (values.Imports i) e = refl
value_rootless first root label revision (values.Linked x) e = refl
value_rootless first root label revision (values.Defs x) e = refl
value_rootless first root label revision (values.Scope s) e = refl
value_rootless first root label revision (values.Resolved r) e = refl
value_rootless first root label revision (values.Checks f) e = refl
value_rootless first root label revision (values.Descriptor t) e = refl
value_rootless first root label revision (values.Symbols t) e = refl

outcome_rootless : {M : Type 0} (first root : List ℕ) (label : LabelModel) (want : Want ProtoKey) (revision : ℕ) (outcome : Outcome ProtoKey ProtoValue M) → option_and_then value_location (outcome_value outcome) ≡ None → outcome_text first label want revision outcome ≡ outcome_text root label want revision outcome
outcome_rootless first root label want revision (Answered (Value value) stamp) e = value_rootless first root label revision value e
outcome_rootless first root label want revision (Answered (Cycle ring) stamp) e = refl
outcome_rootless first root label want revision Plain e = refl
outcome_rootless first root label want revision (Cancelled started seen) e = refl
outcome_rootless first root label want revision Starved e = refl
outcome_rootless first root label want revision Withdrawn e = refl

pub other_reply : {M : Type 0} (uri looked root : List ℕ) (reply : ReplyView ProtoKey ProtoValue M) → answered_diagnostics reply ≡ None → answered_location reply ≡ None → editor_reply_text uri looked reply ≡ reply_text root reply
other_reply uri looked root reply no_list no_place =
    let label = label_model reply.request.label in
    ap (λ (answered : Option Diagnosed). shown_or_text uri looked reply answered (answered_location reply)) no_list
    ∙ ap (λ (place : Option Location). shown_or_text uri looked reply None place) no_place
    ∙ outcome_rootless [] root label reply.request.want reply.revision reply.outcome no_place

-- ---- notifications

pub published_is_spliced : (uri : List ℕ) (version : Option ℤ) (d : Data) → published_text uri version (compact_text d) ≡ compact_text (published_data uri version d)
unfolding published_text escape_byte
published_is_spliced uri None d = simp append_assoc
published_is_spliced uri (Some (pos n)) d = simp append_assoc
published_is_spliced uri (Some (negsuc n)) d = simp append_assoc
