-- Edits, at what a store keeps.
use Rattle.std.proofs.Common.{◌≡◌, ℕ, ◌+◌, ◌≤◌, List, [], ◌∷◌, ◌++◌, Option, Some, None, refl, sym, ◌∙◌, ap, subst, inl, inr}
use Rattle.std.specs.Prelude.{Ok, Err, Result, unwrap_or}
use Rattle.std.specs.Option.{option_map}
use Rattle.std.specs.declared.cmp.Ordering.{Ordering}
use Rattle.pq_inputs.specs.Sources.{Table, with_file}
use Rattle.pq_inputs.specs.Refusal.{refusal}
use Rattle.pq_inputs.specs.declared.durability.Durability.{Durability}
use Rattle.pq_inputs.specs.declared.fault.InputFault.{InputFault}
use Rattle.pq_inputs.specs.declared.fault.InputFault.TheVariants.{Memory as NoMemory}
use Rattle.pq_rules.specs.Turns.{Machine}
use Rattle.pq_core.proofs.Calling.{open_of, closed_of}
use Rattle.pq_core.proofs.Moving.{edit_stands}
use Rattle.pq_core.proofs.Keeping.{kept_edited}
use Rattle.pq_rules.specs.declared.turn.Answer.{Answer}
use Rattle.pq_core.specs.Points.{Point}
use Rattle.pq_core.specs.Replies.{ReplyView}
use Rattle.pq_core.specs.Changes.{BodyView, ChangeView}
use Rattle.pq_core.specs.Ledger.{Ledger}
use Rattle.pq_core.specs.RightReply.{answer_by}
use Rattle.pq_core.specs.Moves.{Reaches, EditRefusal, InputRefusal, IsRanged, text_made, file_of, changed}
use Rattle.pq_core.specs.Stores.{Held, fields_of, run_seen as seen_of, StandsOf}
use Rattle.pq_core.specs.aux.Rising.{found}
use Rattle.pq_core.specs.Accounts.{AccountView}
use Rattle.pq_core.specs.aux.Accounts.{AccountStands}
use Rattle.pq_core.specs.aux.Accepting.{MayNotEdit}
use Rattle.pq_core.specs.aux.Turning.{Sets}
use Rattle.pq_core.specs.Kept.{Kept}
use Rattle.pq_core.specs.declared.values.fault.EditRefused.{EditRefused}
use Rattle.pq_core.specs.declared.values.fault.EditFault.{EditFault}
use Rattle.pq_core.specs.declared.values.fault.EditFault.TheVariants.{NoClient as EditNoClient, Closed as EditClosed, BadRange, Input}

module _ {K V M O : Type 0} (means : M → Point → K → Answer K V → Type 0) (puts : O → List (ReplyView K V M)) where
  -- an edit keeps what holds, before any run ends
  pub kept_sets : (c : ℕ) (change : ChangeView) (answer : Result ℕ EditRefused) (l m : Ledger K V M O) → Kept means puts l → Sets c change answer l m → Kept means puts m
  kept_sets c change (Ok revision) l m k s = subst (Kept means puts) (sym s.4) (kept_edited means puts l change k)
  kept_sets c change (Err refused) l m k s = subst (Kept means puts) (sym s.2) k

module _ {K P V M O : Type 0} (order : K → K → Ordering) (m : Machine K P V) (point : M → Point) (puts : O → List (ReplyView K V M)) where
  -- an edit is accepted
  pub edit_moved : (b a : Held K P V M) (c revision : ℕ) (change : ChangeView) (text : Option (List ℕ)) (l : Ledger K V M O) → (account : AccountView K V M) × (found b.accounts c ≡ Some account)
      → text_made b.inputs.files change ≡ Some text → refusal b.inputs change.file text ≡ None → revision ≡ b.inputs.revision + 1 → a.inputs ≡ changed b.inputs change
      → ((k : ℕ) → found a.accounts k ≡ found b.accounts k) → a.opened ≡ b.opened → a.clients ≡ b.clients
      → ((k : ℕ) → found a.runs k ≡ found b.runs k) → a.started ≡ b.started → StandsOf order m point puts b l
      → Reaches (Sets c change (Ok revision)) l (StandsOf order m point puts a)
  edit_moved b a c revision change text l there made accepted next inputs accounts count clients runs started s =
      let w = open_of (AccountStands puts) (answer_by order m point) puts (fields_of b) l c there.0 s there.1 in
      let after : Ledger K V M O = record { inputs = changed l.inputs change; clients = l.clients; runs = l.runs } in
      let move : Sets c change (Ok revision) l after = (
        w.0,
        w.1,
        (
          text,
          ap (λ (t : Table). text_made t.files change) s.inputs ∙ made,
          ap (λ (t : Table). refusal t change.file text) s.inputs ∙ accepted,
        ),
        next ∙ ap (λ (t : Table). t.revision + 1) (sym s.inputs),
        refl,
      ) in (
        after,
        move,
        edit_stands (AccountStands puts) (answer_by order m point) puts (fields_of b) (fields_of a) l after change s inputs count clients accounts
            (record { runs = λ r. ap (option_map seen_of) (runs r); started = started }) refl
            (kept_sets (answer_by order m point) puts c change (Ok revision) l after s.kept move),
      )

  -- the inputs refused the text of an edit
  pub edit_refused : (b : Held K P V M) (c : ℕ) (change : ChangeView) (text : Option (List ℕ)) (fault : InputFault) (l : Ledger K V M O) → (account : AccountView K V M) × (found b.accounts c ≡ Some account)
      → text_made b.inputs.files change ≡ Some text → fault ≡ unwrap_or (refusal b.inputs change.file text) NoMemory → StandsOf order m point puts b l → EditRefusal l c change (Input fault)
  edit_refused b c change text fault l there made e s =
      let w = open_of (AccountStands puts) (answer_by order m point) puts (fields_of b) l c there.0 s there.1 in (
        w.0,
        w.1,
        inl (
          text,
          ap (λ (t : Table). text_made t.files change) s.inputs ∙ made,
          so (refusal l.inputs change.file text) (e ∙ ap (λ (t : Table). unwrap_or (refusal t change.file text) NoMemory) (sym s.inputs)),
        ),
      )
    where
      so : (r : Option InputFault) → fault ≡ unwrap_or r NoMemory → InputRefusal r fault
      so None x = x
      so (Some y) x = x

  -- a range of an edit is bad
  pub edit_misranged : (b : Held K P V M) (c : ℕ) (change : ChangeView) (l : Ledger K V M O) → (account : AccountView K V M) × (found b.accounts c ≡ Some account)
      → text_made b.inputs.files change ≡ None → StandsOf order m point puts b l → EditRefusal l c change BadRange
  edit_misranged b c change l there bad s =
      let w = open_of (AccountStands puts) (answer_by order m point) puts (fields_of b) l c there.0 s there.1 in
      (w.0, w.1, ap (λ (t : Table). text_made t.files change) s.inputs ∙ bad)

  -- an allocation failed while changes with ranges were made
  pub edit_unmade : (b : Held K P V M) (c : ℕ) (change : ChangeView) (l : Ledger K V M O) → (account : AccountView K V M) × (found b.accounts c ≡ Some account)
      → IsRanged change.body → StandsOf order m point puts b l → EditRefusal l c change (Input NoMemory)
  edit_unmade b c change l there is_ranged s =
      let w = open_of (AccountStands puts) (answer_by order m point) puts (fields_of b) l c there.0 s there.1 in
      (w.0, w.1, inr (is_ranged, refl))

  -- why an edit is refused
  pub edit_refusal_so : (b : Held K P V M) (l : Ledger K V M O) (c : ℕ) (change : ChangeView) (fault : EditFault) → StandsOf order m point puts b l → MayNotEdit b c fault → EditRefusal l c change fault
  edit_refusal_so b l c change EditNoClient s h = subst (λ (n : ℕ). n ≤ c) (sym s.clients) h
  edit_refusal_so b l c change EditClosed s h = closed_of (AccountStands puts) (answer_by order m point) puts (fields_of b) l c s h.1 h.0
  edit_refusal_so b l c change BadRange s h = absurd h
  edit_refusal_so b l c change (Input fault) s h = absurd h

-- the inputs after a change
pub table_is : (t b : Table) (change : ChangeView) → t.files ≡ with_file b.files change.file (file_of b.files change) → t.revision ≡ b.revision + 1 → t.history ≡ b.history ++ t.files ∷ [] → t.limit ≡ b.limit
    → t ≡ changed b change
table_is t b change f r h n =
    ap (λ x. record { files = x; revision = t.revision; history = t.history; limit = t.limit }) f
    ∙ (ap (λ x. record { files = with_file b.files change.file (file_of b.files change); revision = x; history = t.history; limit = t.limit }) r
    ∙ (ap (λ x. record { files = with_file b.files change.file (file_of b.files change); revision = b.revision + 1; history = x; limit = t.limit }) (h ∙ ap (λ x. b.history ++ x ∷ []) f)
    ∙ ap (λ x. record { files = with_file b.files change.file (file_of b.files change); revision = b.revision + 1; history = b.history ++ with_file b.files change.file (file_of b.files change) ∷ []; limit = x }) n))

-- `of_body file durability body` is the change of `file` by `body`
abbrev pub of_body : List ℕ → Durability → BodyView → ChangeView
of_body file durability body = record { file = file; body = body; durability = durability }
