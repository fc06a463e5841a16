-- Kinds of names that the query of links preserves: with answers that hold names of a kind alone,
-- it asks keys of names of the kind, and ends in names of the kind. The laws of a sum follow from
-- this, with `proofs/Preserved` of pq_rules.
use Rattle.std.proofs.Common.{ℕ, Bool, true, false, cond, not, List, [], ◌∷◌, ◌++◌, map, Option, Some, None}
use Rattle.std.specs.Prelude.{bytes_eq, filter}
use Rattle.pq_rules.specs.Relations.{Each}
use Rattle.pq_rules.proofs.Preserved.{TurnIn}
use Rattle.pq_rules.proofs.Characterisation.{each_append}
use Rattle.pq_links.specs.ImportGraph.{file_of}
use Rattle.pq_links.specs.Once.{each_once}
use Rattle.pq_links.specs.Visibility.{firsts, passed_on, shown, reached, links_by, no_links}
use Rattle.pq_links.specs.aux.Queries.{join_next, linked_starts, linked_advances}
use Rattle.pq_links.specs.declared.linked.Linking.{Linking}
use Rattle.pq_links.specs.declared.linked.Linking.TheVariants.{Reading, Joining}
use Rattle.pq_links.specs.declared.links.Import.{Import}
use Rattle.pq_links.specs.declared.links.Links.{Links}

-- `ImportsIn N is` is that the names of the imports `is` are of the kind `N`
abbrev pub ImportsIn : (List ℕ → Type 0) → List Import → Type 0
ImportsIn N is = Each N (map file_of is)

-- `IfImportsIn N imports` is the same of the imports of a file, `None` where it is absent
abbrev pub IfImportsIn : (List ℕ → Type 0) → Option (List Import) → Type 0
IfImportsIn N None = Unit {0}
IfImportsIn N (Some is) = ImportsIn N is

-- `LinksIn N l` is that the names of the links `l` are of the kind `N`
pub record LinksIn (N : List ℕ → Type 0) (l : Links) : Type 0 where
  pub exports : Each N l.exports
  pub visible : Each N l.visible
  pub reach : Each N l.reach

-- `LinkingIn N part` is that the names of the part `part` are of the kind `N`
abbrev pub LinkingIn : (List ℕ → Type 0) → Linking → Type 0
LinkingIn N (Reading f) = N f
LinkingIn N (Joining f (left, pairs)) = N f × ImportsIn N left × Each (λ e. LinksIn N e.1) pairs

each_kept : {A : Type 0} (P : A → Type 0) (b : Bool) (x : A) (xs : List A) → P x → Each P xs → Each P (cond b (x ∷ xs) xs)
each_kept P true x xs h t = (h, t)
each_kept P false x xs h t = t

each_filter : {A : Type 0} (P : A → Type 0) (f : A → Bool) (xs : List A) → Each P xs → Each P (filter f xs)
each_filter P f [] a = tt
each_filter P f (x ∷ xs) a = each_kept P (f x) x (filter f xs) a.0 (each_filter P f xs a.1)

-- what holds of all items holds of those at their first places
pub once_in : {A : Type 0} (same : A → A → Bool) (P : A → Type 0) (xs : List A) → Each P xs → Each P (each_once same xs)
unfolding each_once
once_in same P [] a = tt
once_in same P (x ∷ xs) a = (a.0, each_filter P (λ y. not (same x y)) (each_once same xs) (once_in same P xs a.1))

pub firsts_in : (N : List ℕ → Type 0) (xs : List (List ℕ)) → Each N xs → Each N (firsts xs)
firsts_in N xs a = once_in bytes_eq N xs a

public_in : (N : List ℕ → Type 0) (b : Bool) (xs : List (List ℕ)) → Each N xs → Each N (cond b xs [])
public_in N true xs a = a
public_in N false xs a = tt

passed_in : (N : List ℕ → Type 0) (pairs : List (Import × Links)) → Each (λ e. LinksIn N e.1) pairs → Each N (passed_on pairs)
passed_in N [] a = tt
passed_in N (e ∷ es) a = each_append N (cond e.0.is_public e.1.exports []) (passed_on es) (public_in N e.0.is_public e.1.exports a.0.exports) (passed_in N es a.1)

shown_in : (N : List ℕ → Type 0) (pairs : List (Import × Links)) → Each (λ e. LinksIn N e.1) pairs → Each N (shown pairs)
shown_in N [] a = tt
shown_in N (e ∷ es) a = each_append N e.1.exports (shown es) a.0.exports (shown_in N es a.1)

reached_in : (N : List ℕ → Type 0) (pairs : List (Import × Links)) → Each (λ e. LinksIn N e.1) pairs → Each N (reached pairs)
reached_in N [] a = tt
reached_in N (e ∷ es) a = each_append N e.1.reach (reached es) a.0.reach (reached_in N es a.1)

pub links_by_in : (N : List ℕ → Type 0) (f : List ℕ) (pairs : List (Import × Links)) → N f → Each (λ e. LinksIn N e.1) pairs → LinksIn N (links_by f pairs)
links_by_in N f pairs n a = record {
  exports = firsts_in N (f ∷ passed_on pairs) (n, passed_in N pairs a);
  visible = firsts_in N (f ∷ shown pairs) (n, shown_in N pairs a);
  reach = firsts_in N (f ∷ reached pairs) (n, reached_in N pairs a);
}

pub no_links_in : (N : List ℕ → Type 0) → LinksIn N no_links
no_links_in N = record { exports = tt; visible = tt; reach = tt }

module _ {K : Type 0} (KeyIn : K → Type 0) (N : List ℕ → Type 0) (imports linked : List ℕ → K)
    (imports_in : (f : List ℕ) → N f → KeyIn (imports f)) (linked_in : (f : List ℕ) → N f → KeyIn (linked f)) where
  next_in : (f : List ℕ) (left : List Import) (pairs : List (Import × Links)) → LinkingIn N (Joining f (left, pairs))
      → TurnIn KeyIn (LinkingIn N) (LinksIn N) (join_next linked f left pairs)
  next_in f [] pairs i = links_by_in N f pairs i.0 i.2
  next_in f (x ∷ xs) pairs i = (linked_in x.file i.1.0, i)

  -- the query of links asks and ends in the kind, with answers of the kind
  pub linked_starts_in : (f : List ℕ) → N f → TurnIn KeyIn (LinkingIn N) (LinksIn N) (linked_starts imports f)
  linked_starts_in f n = (imports_in f n, n)

  pub linked_advances_in : (o : Option (List Import)) (l : Links) (p : Linking) → IfImportsIn N o → LinksIn N l → LinkingIn N p
      → TurnIn KeyIn (LinkingIn N) (LinksIn N) (linked_advances linked o l p)
  linked_advances_in None l (Reading f) a b i = no_links_in N
  linked_advances_in (Some is) l (Reading f) a b i = next_in f is [] (i, a, tt)
  linked_advances_in o l (Joining f ([], pairs)) a b i = no_links_in N
  linked_advances_in o l (Joining f (x ∷ xs, pairs)) a b i = next_in f xs (pairs ++ (x, l) ∷ []) (i.0, i.1.1, each_append (λ e. LinksIn N e.1) pairs ((x, l) ∷ []) i.2 (b, tt))
