-- The scopes inside the package of a file, and the searches from them.
use Rattle.std.proofs.Common.{◌≡◌, ℕ, zero, suc, ◌+◌, ◌<◌, ◌≤◌, Bool, true, false, cond, ◌||◌, nat_eq, nat_lt, unwrap_or, List, [], ◌∷◌, ◌++◌, length, get_or, map, drop, take, Option, refl, sym, ap, subst, ◌∙◌, arith, append_assoc, append-nil}
use Rattle.std.specs.Prelude.{bytes_eq, codes, flat_map}
use Rattle.std.specs.List.{starts_with}
use Rattle.std.proofs.lemmas.List.{at_drop_all, at_drop_more, length-append, map-append, map-id, take_all}
use Rattle.std.proofs.lemmas.Simd.{map-map}
use Rattle.std.proofs.lemmas.Slice.Eq.{bytes_eq-Decides}
use Rattle.pq_links.specs.declared.places.TypePart.{TypePart}
use Rattle.pq_rules.specs.Relations.{Each}
use Rattle.pq_rules.proofs.Characterisation.{each_append}
use Rattle.pq_syntax.specs.declared.tree.Statement.{Statement}
use Rattle.pq_syntax.specs.declared.tree.Statement.TheVariants as statements
use Rattle.pq_syntax.specs.Places.{Item, Place, kept}
use Rattle.pq_syntax.specs.Stacks.{closed, innermost}
use Rattle.pq_syntax.proofs.Walk.{given, inner_at}
use Rattle.pq_schema.specs.declared.scope.scope.FileDefs.{FileDefs}
use Rattle.pq_schema.specs.Definitions.{qualified, scope_in, scope_of}
use Rattle.pq_schema.specs.References.{references_at, references_by}
use Rattle.pq_schema.specs.Resolution.{Found, decides, dotted, found, is_package, prefixes, scopes, single, unless_type}
use Rattle.pq_schema.specs.aux.Grouping.{AreNear, around}
use Rattle.pq_schema.specs.aux.Fronts.{Begins}
use Rattle.pq_schema.specs.aux.Inside.{AreInner, AreShort, dotted_from, next_in, opened, opened_by, single_from, used_as}
use Rattle.pq_schema.specs.aux.NameParts.{leading}
use Rattle.pq_schema.specs.aux.Scopes.{before, is_among}
use Rattle.pq_schema.specs.aux.Spots.{IsPlain}
use Rattle.pq_schema.proofs.Among.{among_append}
use Rattle.pq_schema.proofs.Marks.{each_more, each_weaker, near_scope}
use Rattle.pq_schema.proofs.Cases.{either}
use Rattle.pq_schema.proofs.CommonFronts.{lead_begins}
use Rattle.pq_schema.proofs.ScopesWithin.{or_left, or_right, starts_split}
use Rattle.pq_schema.proofs.Walks.{grouped}

-- ---- the scopes inside a package

pub prefixes_after : (a b : List ℕ) → prefixes (a ++ b) ≡ map (λ s. a ++ s) (prefixes b) ++ prefixes a
unfolding prefixes
prefixes_after [] b = sym (append-nil (map (λ s. s) (prefixes b)) ∙ map-id (prefixes b))
prefixes_after (c ∷ cs) b =
    let end = cond (nat_eq c 46) ([] ∷ []) [] in
    ap (λ (ps : List (List ℕ)). map (λ s. c ∷ s) ps ++ end) (prefixes_after cs b)
    ∙ ap (λ (ps : List (List ℕ)). ps ++ end)
    (map-append (λ s. c ∷ s) (map (λ s. cs ++ s) (prefixes b)) (prefixes cs)
    ∙ ap (λ (ps : List (List ℕ)). ps ++ map (λ s. c ∷ s) (prefixes cs)) (map-map (λ s. c ∷ s) (λ s. cs ++ s) (prefixes b)))
    ∙ append_assoc (map (λ s. c ∷ (cs ++ s)) (prefixes b)) (map (λ s. c ∷ s) (prefixes cs)) end

prefixes_dot : (w : List ℕ) → prefixes (46 ∷ w) ≡ map (λ s. 46 ∷ s) (prefixes w) ++ [] ∷ []
unfolding prefixes
prefixes_dot w = refl

prefixes_in : (root w : List ℕ) → prefixes (root ++ 46 ∷ w) ≡ map (λ s. root ++ 46 ∷ s) (prefixes w) ++ (root ∷ prefixes root)
prefixes_in root w =
    prefixes_after root (46 ∷ w)
    ∙ ap (λ (ps : List (List ℕ)). map (λ s. root ++ s) ps ++ prefixes root) (prefixes_dot w)
    ∙ ap (λ (ps : List (List ℕ)). ps ++ prefixes root)
    (map-append (λ s. root ++ s) (map (λ s. 46 ∷ s) (prefixes w)) ([] ∷ [])
    ∙ ap (λ (ps : List (List ℕ)). ps ++ (root ++ []) ∷ []) (map-map (λ s. root ++ s) (λ s. 46 ∷ s) (prefixes w))
    ∙ ap (λ (r : List ℕ). map (λ s. root ++ 46 ∷ s) (prefixes w) ++ r ∷ []) (append-nil root))
    ∙ append_assoc (map (λ s. root ++ 46 ∷ s) (prefixes w)) (root ∷ []) (prefixes root)

map_joined : (r : ℕ) (rs : List ℕ) (ss : List (List ℕ)) → map (λ s. (r ∷ rs) ++ 46 ∷ s) ss ≡ map (qualified (r ∷ rs)) ss
map_joined r rs [] = refl
map_joined r rs (s ∷ ss) =
    ap (λ (x : List ℕ). x ∷ map (λ y. (r ∷ rs) ++ 46 ∷ y) ss) (sym (append_assoc (r ∷ rs) (codes ".") s))
    ∙ ap (λ (xs : List (List ℕ)). qualified (r ∷ rs) s ∷ xs) (map_joined r rs ss)

scopes_in : (r : ℕ) (rs w : List ℕ) → scopes (qualified (r ∷ rs) w) ≡ map (qualified (r ∷ rs)) (w ∷ prefixes w) ++ scopes (r ∷ rs)
scopes_in r rs w =
    ap scopes (append_assoc (r ∷ rs) (codes ".") w)
    ∙ ap (λ (ps : List (List ℕ)). ((r ∷ rs) ++ 46 ∷ w) ∷ (ps ++ [] ∷ [])) (prefixes_in (r ∷ rs) w)
    ∙ ap (λ (ps : List (List ℕ)). ((r ∷ rs) ++ 46 ∷ w) ∷ ps)
    (append_assoc (map (λ s. (r ∷ rs) ++ 46 ∷ s) (prefixes w)) ((r ∷ rs) ∷ prefixes (r ∷ rs)) ([] ∷ []))
    ∙ ap (λ (ss : List (List ℕ)). ss ++ scopes (r ∷ rs)) (map_joined r rs (w ∷ prefixes w))

map_empty : (ss : List (List ℕ)) → map (qualified []) ss ≡ ss
map_empty [] = refl
map_empty (s ∷ ss) = ap (λ (xs : List (List ℕ)). s ∷ xs) (map_empty ss)

-- the scopes of a scope that is opened
opened_scopes : (s n : List ℕ) → scopes (qualified s n) ≡ map (qualified s) (before (next_in s n)) ++ scopes s
opened_scopes [] [] = refl
opened_scopes [] (c ∷ cs) = ap (λ (ss : List (List ℕ)). ss ++ [] ∷ []) (sym (map_empty ((c ∷ cs) ∷ prefixes (c ∷ cs))))
opened_scopes (r ∷ rs) n = scopes_in r rs n

-- a scope that is opened, as the program makes it
pub opened_is : (name scope : List ℕ) (own more all copied : List (List ℕ)) (inside : List ℕ) (next : Option (List ℕ)) (outer : List ℕ × List (List ℕ)) (own_name text : List ℕ)
    → own_name ≡ scope → text ≡ name → next ≡ next_in own_name text
    → more ≡ map leading (map (qualified scope) (before next))
    → all ≡ more ++ copied → copied ≡ own → inside ≡ qualified scope name → (scope, own) ≡ outer
    → (inside, all) ≡ opened name outer
opened_is name scope own more all copied inside next outer own_name text is_scope is_name is_next are added same is_inside is_outer =
    let first : next ≡ next_in scope name = is_next ∙ ap (λ (s : List ℕ). next_in s text) is_scope ∙ ap (λ (n : List ℕ). next_in scope n) is_name in
    let leads : all ≡ map leading (map (qualified scope) (before (next_in scope name))) ++ own =
    added ∙ ap (λ (ls : List (List ℕ)). ls ++ copied) (are ∙ ap (λ (o : Option (List ℕ)). map leading (map (qualified scope) (before o))) first)
    ∙ ap (λ (ls : List (List ℕ)). map leading (map (qualified scope) (before (next_in scope name))) ++ ls) same in
    ap (λ (n : List ℕ). (n, all)) is_inside
    ∙ ap (λ (ls : List (List ℕ)). (qualified scope name, ls)) leads
    ∙ ap (λ (o : List ℕ × List (List ℕ)). opened name o) is_outer

begins_through : (a b c : List ℕ) → Begins a b → Begins b c → Begins a c
begins_through a b c f g = (f.0 ++ g.0, g.1 ∙ ap (λ (x : List ℕ). x ++ g.0) f.1 ∙ append_assoc a f.0 g.0)

begin_inside : (root s : List ℕ) (ss : List (List ℕ)) → Begins (leading root) (leading s) → Each (λ l. Begins (leading root) l) (map leading (map (qualified s) ss))
begin_inside root s [] front = tt
begin_inside root s (x ∷ xs) front =
    (begins_through (leading root) (leading s) (leading (qualified s x)) front (lead_begins s x), begin_inside root s xs front)

pub inner_root : (root : List ℕ) → AreInner [] root root
inner_root root = record { scopes = []; are = refl; begin = tt; front = ([], sym (append-nil (leading root))); all = refl }

inner_more : (root name : List ℕ) (outer : List ℕ × List (List ℕ)) → AreInner outer.1 root outer.0 → AreInner (opened name outer).1 root (opened name outer).0
inner_more root name outer are =
    let s = outer.0 in
    let more = map (qualified s) (before (next_in s name)) in
    record {
      scopes = more ++ are.scopes;
      are = ap (λ (ls : List (List ℕ)). map leading more ++ ls) are.are ∙ sym (map-append leading more are.scopes);
      begin = each_append (λ l. Begins (leading root) l) (map leading more) outer.1 (begin_inside root s (before (next_in s name)) are.front) are.begin;
      front = begins_through (leading root) (leading s) (leading (qualified s name)) are.front (lead_begins s name);
      all = opened_scopes s name ∙ ap (λ (ss : List (List ℕ)). more ++ ss) are.all ∙ sym (append_assoc more are.scopes (scopes root));
    }

-- `Fits root s` is that the scope `s` is one in a file of the package `root`
abbrev pub Fits : List ℕ → List ℕ × List (List ℕ) → Type 0
Fits root s = AreInner s.1 root s.0

pub inner_by : (root : List ℕ) (statement : Statement) (outer : List ℕ × List (List ℕ)) → Fits root outer → Fits root (opened_by statement outer)
inner_by root (statements.Import kind name) outer h = h
inner_by root (statements.Package name) outer h = h
inner_by root (statements.«Option» o) outer h = h
inner_by root (statements.Message name) outer h = inner_more root name.text outer h
inner_by root (statements.Field label kind name field options) outer h = h
inner_by root (statements.MapField key value name field options) outer h = h
inner_by root (statements.Oneof name) outer h = h
inner_by root (statements.ReservedNumbers n) outer h = h
inner_by root (statements.ReservedNames n) outer h = h
inner_by root (statements.Enum name) outer h = h
inner_by root (statements.Value name value options) outer h = h
inner_by root (statements.Service name) outer h = inner_more root name.text outer h
inner_by root (statements.Method name input output) outer h = h
inner_by root (statements.Extend name) outer h = h

name_by : (statement : Statement) (outer : List ℕ × List (List ℕ)) → (opened_by statement outer).0 ≡ scope_of statement outer.0
name_by (statements.Import kind name) outer = refl
name_by (statements.Package name) outer = refl
name_by (statements.«Option» o) outer = refl
name_by (statements.Message name) outer = refl
name_by (statements.Field label kind name field options) outer = refl
name_by (statements.MapField key value name field options) outer = refl
name_by (statements.Oneof name) outer = refl
name_by (statements.ReservedNumbers n) outer = refl
name_by (statements.ReservedNames n) outer = refl
name_by (statements.Enum name) outer = refl
name_by (statements.Value name value options) outer = refl
name_by (statements.Service name) outer = refl
name_by (statements.Method name input output) outer = refl
name_by (statements.Extend name) outer = refl

-- ---- the walk over the references of a file

abbrev pub keep : Item → List ℕ × List (List ℕ) → List ℕ × List (List ℕ)
keep i outer = opened_by i.node.statement outer

abbrev pub emit : List FileDefs → List ℕ × List (List ℕ) → Item → List (ℕ × (TypePart × Found))
emit files scope i = map (used_as files) (references_by scope.0 i.number i.node.statement)

kept_name : (root : List ℕ) (within : List Item) → (kept keep (root, []) within).0 ≡ scope_in root within
unfolding kept
kept_name root [] = refl
kept_name root (i ∷ is) =
    name_by i.node.statement (kept keep (root, []) is) ∙ ap (λ (s : List ℕ). scope_of i.node.statement s) (kept_name root is)

-- what the walk gives is what the references are found as
pub given_found : (files : List FileDefs) (root : List ℕ) (ps : List Place)
    → given keep (root, []) (emit files) ps ≡ map (used_as files) (flat_map (references_at root) ps)
given_found files root [] = refl
given_found files root (p ∷ ps) =
    ap (λ (s : List ℕ). map (used_as files) (references_by s p.item.number p.item.node.statement) ++ given keep (root, []) (emit files) ps) (kept_name root p.within)
    ∙ ap (λ (us : List (ℕ × (TypePart × Found))). map (used_as files) (references_at root p) ++ us) (given_found files root ps)
    ∙ sym (map-append (used_as files) (references_at root p) (flat_map (references_at root) ps))

-- the open scopes are scopes of the file
abbrev pub AllFit : List ℕ → List (ℕ × (List ℕ × List (List ℕ))) → Type 0
AllFit root stack = Each (λ (e : ℕ × (List ℕ × List (List ℕ))). Fits root e.1) stack

fit_closed : (root : List ℕ) (depth : ℕ) (stack : List (ℕ × (List ℕ × List (List ℕ)))) → AllFit root stack → AllFit root (closed depth stack)
unfolding closed
fit_closed root depth [] all = tt
fit_closed root depth (e ∷ es) all =
    either (nat_lt e.0 depth) (λ b. AllFit root (cond b (e ∷ es) (closed depth es))) (λ t. all) (λ f. fit_closed root depth es all.1)

fit_first : (root : List ℕ) (stack : List (ℕ × (List ℕ × List (List ℕ)))) → AllFit root stack → Fits root (unwrap_or (innermost stack) (root, []))
fit_first root [] all = inner_root root
fit_first root (e ∷ es) all = all.0

pub fit_inner : (root : List ℕ) (stack : List (ℕ × (List ℕ × List (List ℕ)))) (depth : ℕ) → AllFit root stack → Fits root (inner_at (root, []) stack depth)
fit_inner root stack depth all = fit_first root (closed depth stack) (fit_closed root depth stack all)

-- the innermost scope, once the stack is closed to a statement's depth
pub inner_opened : (root : List ℕ) (first : List ℕ × List (List ℕ)) (stack shut : List (ℕ × (List ℕ × List (List ℕ)))) (depth : ℕ) (scope : List ℕ × List (List ℕ))
    → first ≡ (root, []) → shut ≡ closed depth stack → scope ≡ unwrap_or (innermost shut) first → scope ≡ inner_at (root, []) stack depth
inner_opened root first stack shut depth scope is closes inner =
    inner
    ∙ ap (λ (es : List (ℕ × (List ℕ × List (List ℕ)))). unwrap_or (innermost es) first) closes
    ∙ ap (λ (s : List ℕ × List (List ℕ)). unwrap_or (innermost (closed depth stack)) s) is

pub fit_more : (root : List ℕ) (stack new : List (ℕ × (List ℕ × List (List ℕ)))) (depth : ℕ) (i : Item) (scope : List ℕ × List (List ℕ))
    → new ≡ (depth, keep i scope) ∷ closed depth stack → Fits root scope → AllFit root stack → AllFit root new
fit_more root stack new depth i scope is fits all =
    subst (λ (es : List (ℕ × (List ℕ × List (List ℕ)))). AllFit root es) (sym is) (inner_by root i.node.statement scope fits, fit_closed root depth stack all)

pub each_at : (P : List ℕ → Type 0) (xs : List (List ℕ)) (i : ℕ) (d : List ℕ) → Each P xs → i < length xs → P (get_or xs i d)
each_at P [] i d all within = absurd (omega arith)
each_at P (x ∷ xs) zero d all within = all.0
each_at P (x ∷ xs) (suc i) d all within = each_at P xs i d all.1 (omega arith)

-- the leads once one is added
pub leads_more : (root : List ℕ) (next : Option (List ℕ)) (s lead : List ℕ) (old new whole : List (List ℕ))
    → prefixes s ≡ before next → lead ≡ leading (qualified root s) → new ≡ old ++ lead ∷ []
    → old ++ map leading (map (qualified root) (s ∷ prefixes s)) ≡ whole
    → new ++ map leading (map (qualified root) (before next)) ≡ whole
leads_more root next s lead old new whole outer is added so_far =
    let rest = map leading (map (qualified root) (before next)) in
    ap (λ (xs : List (List ℕ)). xs ++ rest) (added ∙ ap (λ (l : List ℕ). old ++ l ∷ []) is)
    ∙ append_assoc old (leading (qualified root s) ∷ []) rest
    ∙ ap (λ (ss : List (List ℕ)). old ++ map leading (map (qualified root) (s ∷ ss))) (sym outer)
    ∙ so_far

-- ---- searches from these scopes

spelled : (s n : List ℕ) → leading s ++ n ≡ qualified s n
spelled [] n = refl
spelled (c ∷ cs) n = refl

pub single_leads : (files : List FileDefs) (ss tt : List (List ℕ)) (name : List ℕ)
    → single files (ss ++ tt) name ≡ single_from files (map leading ss) (single files tt name) name
unfolding single single_from
single_leads files [] tt name = refl
single_leads files (s ∷ ss) tt name =
    ap (λ (x : Found). unless_type (found files (qualified s name)) x) (single_leads files ss tt name)
    ∙ ap (λ (x : List ℕ). unless_type (found files x) (single_from files (map leading ss) (single files tt name) name)) (sym (spelled s name))

pub dotted_leads : (files : List FileDefs) (ss tt : List (List ℕ)) (first name : List ℕ)
    → dotted files (ss ++ tt) first name ≡ dotted_from files (map leading ss) (dotted files tt first name) first name
unfolding dotted dotted_from
dotted_leads files [] tt first name = refl
dotted_leads files (s ∷ ss) tt first name =
    ap (λ (x : Found). cond (decides files (qualified s first)) (found files (qualified s name)) x) (dotted_leads files ss tt first name)
    ∙ ap (λ (x : List ℕ). cond (decides files x) (found files (qualified s name)) (dotted_from files (map leading ss) (dotted files tt first name) first name)) (sym (spelled s first))
    ∙ ap (λ (x : List ℕ). cond (decides files (leading s ++ first)) (found files x) (dotted_from files (map leading ss) (dotted files tt first name) first name)) (sym (spelled s name))

-- the leads from one on
pub single_step : (files : List FileDefs) (name : List ℕ) (leads : List (List ℕ)) (i : ℕ) (best hit next outer whole : Found)
    → i < length leads → hit ≡ found files (get_or leads i [] ++ name) → next ≡ unless_type best hit
    → whole ≡ unless_type best (single_from files (drop i leads) outer name)
    → whole ≡ unless_type next (single_from files (drop (i + 1) leads) outer name)
unfolding single_from
single_step files name leads i best hit next outer whole within is is_next so_far =
    let rest = single_from files (drop (i + 1) leads) outer name in
    so_far
    ∙ ap (λ (f : Found). unless_type best f) (at_drop_more (λ ls. single_from files ls outer name) leads i [] within)
    ∙ sym (grouped best (found files (get_or leads i [] ++ name)) rest)
    ∙ ap (λ (f : Found). unless_type f rest) (sym (is_next ∙ ap (λ (f : Found). unless_type best f) is))

pub single_end : (files : List FileDefs) (name : List ℕ) (leads : List (List ℕ)) (i : ℕ) (best outer whole : Found)
    → length leads ≤ i → whole ≡ unless_type best (single_from files (drop i leads) outer name) → whole ≡ unless_type best outer
unfolding single_from
single_end files name leads i best outer whole past so_far =
    so_far ∙ ap (λ (f : Found). unless_type best f) (at_drop_all (λ ls. single_from files ls outer name) leads i past)

pub dotted_step : (files : List FileDefs) (first name : List ℕ) (leads : List (List ℕ)) (i : ℕ) (b : Bool) (outer whole : Found)
    → i < length leads → b ≡ decides files (get_or leads i [] ++ first)
    → whole ≡ dotted_from files (drop i leads) outer first name
    → whole ≡ cond b (found files (get_or leads i [] ++ name)) (dotted_from files (drop (i + 1) leads) outer first name)
unfolding dotted_from
dotted_step files first name leads i b outer whole within is so_far =
    let rest = dotted_from files (drop (i + 1) leads) outer first name in
    so_far
    ∙ at_drop_more (λ ls. dotted_from files ls outer first name) leads i [] within
    ∙ ap (λ (x : Bool). cond x (found files (get_or leads i [] ++ name)) rest) (sym is)

pub dotted_end : (files : List FileDefs) (first name : List ℕ) (leads : List (List ℕ)) (i : ℕ) (outer whole : Found)
    → length leads ≤ i → whole ≡ dotted_from files (drop i leads) outer first name → whole ≡ outer
unfolding dotted_from
dotted_end files first name leads i outer whole past so_far =
    so_far ∙ at_drop_all (λ ls. dotted_from files ls outer first name) leads i past

-- ---- the files near these scopes

near_some : (near : List ℕ) (files : List FileDefs) (ss all : List (List ℕ)) → ((p : List ℕ) → is_among p ss ≡ true → is_among p all ≡ true)
    → AreNear near files all → AreNear near files ss
near_some near files ss all h are = record { rising = are.rising; all = λ k f at a. are.all k f at (h f.defs.package_name a) }

pub near_outer : (near : List ℕ) (files : List FileDefs) (leads : List (List ℕ)) (root within : List ℕ) → AreInner leads root within
    → AreNear near files (scopes within) → AreNear near files (scopes root)
near_outer near files leads root within are close =
    near_some near files (scopes root) (scopes within)
    (λ p a. ap (λ (ss : List (List ℕ)). is_among p ss) are.all ∙ among_append p are.scopes (scopes root) ∙ or_right (is_among p are.scopes) (is_among p (scopes root)) a) close

pub near_inner : (near : List ℕ) (files : List FileDefs) (leads : List (List ℕ)) (root within : List ℕ) → AreInner leads root within
    → AreNear near files (scopes within) → (n : List ℕ) → IsPlain n → Each (λ l. AreNear near files (around (l ++ n))) leads
near_inner near files leads root within are close n plain =
    subst (λ (ls : List (List ℕ)). Each (λ l. AreNear near files (around (l ++ n))) ls) (sym are.are)
    (each are.scopes (λ s a. ap (λ (ss : List (List ℕ)). is_among s ss) are.all ∙ among_append s are.scopes (scopes root) ∙ or_left (is_among s are.scopes) (is_among s (scopes root)) a))
  where
    each : (ss : List (List ℕ)) → ((s : List ℕ) → is_among s ss ≡ true → is_among s (scopes within) ≡ true) → Each (λ l. AreNear near files (around (l ++ n))) (map leading ss)
    each [] h = tt
    each (s ∷ ss) h = (
      near_scope near files within s n (h s (or_left (bytes_eq s s) (is_among s ss) ((bytes_eq-Decides s s).1 refl))) plain close,
      each ss (λ x a. h x (or_right (bytes_eq s x) (is_among x ss) a)),
    )

-- ---- names that are too long for a package

test_false : (b : Bool) → (b ≡ true → ⊥) → b ≡ false
test_false true h = absurd (h refl)
test_false false h = refl

no_start : (p q : List ℕ) → length p < length q → starts_with nat_eq p q ≡ false
no_start p q long = test_false (starts_with nat_eq p q) (λ t. let at = starts_split p q t in absurd (omega (arith, long, ap length at.1, length-append q at.0)))

no_equal : (p q : List ℕ) → length p < length q → bytes_eq p q ≡ false
no_equal p q long = test_false (bytes_eq p q) (λ t. absurd (omega (arith, long, ap length ((bytes_eq-Decides p q).0 t))))

pub too_long : (most : ℕ) (files : List FileDefs) (name : List ℕ) → AreShort most files → most < length name → is_package files name ≡ false
unfolding is_package
too_long most [] name all long = refl
too_long most (f ∷ fs) [] all long = refl
too_long most (f ∷ fs) (c ∷ cs) all long =
    let p = f.defs.package_name in
    let within = all.0 in
    let short : length p < length (c ∷ cs) = omega arith in
    let shorter : length p < length ((c ∷ cs) ++ codes ".") = omega (arith, length-append (c ∷ cs) (codes ".")) in
    ap (λ (b : Bool). (b || starts_with nat_eq p ((c ∷ cs) ++ codes ".")) || is_package fs (c ∷ cs)) (no_equal p (c ∷ cs) short)
    ∙ ap (λ (b : Bool). b || is_package fs (c ∷ cs)) (no_start p ((c ∷ cs) ++ codes ".") shorter)
    ∙ too_long most fs (c ∷ cs) all.1 long

pub short_more : (files : List FileDefs) (i most larger : ℕ) (f : FileDefs) → i < length files → get_or files i f ≡ f → most ≤ larger → length f.defs.package_name ≤ larger
    → AreShort most (take i files) → AreShort larger (take (i + 1) files)
short_more files i most larger f within at up fits all =
    each_more (λ (x : FileDefs). length x.defs.package_name ≤ larger) files i f within
    (each_weaker (λ (x : FileDefs). length x.defs.package_name ≤ most) (λ (x : FileDefs). length x.defs.package_name ≤ larger) (take i files) (λ x h. omega (arith, h, up)) all)
    (subst (λ (x : FileDefs). length x.defs.package_name ≤ larger) (sym at) fits)

pub short_all : (files : List FileDefs) (i most : ℕ) → length files ≤ i → AreShort most (take i files) → AreShort most files
short_all files i most past all = subst (λ (fs : List FileDefs). AreShort most fs) (take_all i files past) all
