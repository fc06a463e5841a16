-- A diagnostic of a text is its syntax error, or an error by the table at the span of its place.
use Rattle.std.proofs.Common.{◌≡◌, Bool, List, [], ◌∷◌, refl, sym, subst, ap, ◌∙◌, inl, inr}
use Rattle.std.specs.Prelude.{◌↔◌, ◌⊎◌, Contains, Option, Some, None, filter_map}
use Rattle.std.specs.List.{cons_option}
use Rattle.std.specs.Option.{option_map}
use Rattle.pq_lex.specs.declared.token.Span.{Span}
use Rattle.pq_syntax.specs.declared.fault.Parsed.{Parsed}
use Rattle.pq_syntax.specs.declared.fault.Parsed.TheVariants.{Tree, Fault as SyntaxFault}
use Rattle.pq_syntax.specs.declared.tree.Node.{Node}
use Rattle.pq_links.specs.Place.{place}
use Rattle.pq_checks.specs.Diagnostics.{IsDiagnostic, at_span, diagnostic_at, parsed_diagnostics, syntax_diagnostic}
use Rattle.pq_checks.specs.declared.errors.diagnostic.Diagnostic.{Diagnostic}
use Rattle.pq_checks.specs.declared.errors.fault.Fault.{Fault}
use Rattle.pq_checks.proofs.DiagnosticsInOrder.{diagnostics_exact, diagnostics_total}
use Rattle.pq_checks.proofs.EachLine.{contains_head, head_or_tail, none_said, only_one, tail}
use Rattle.pq_checks.proofs.OneOrder.{members_in_order}

module _ (nodes : List Node) where
  abbrev Placed : List Fault → Diagnostic → Type 0
  Placed fs d = (f : Fault) × (s : Span) × Contains fs f × (place nodes f.item f.part ≡ Some s) × (d ≡ at_span f s)

  spanned : (f : Fault) (o : Option Span) (d : Diagnostic) → option_map (at_span f) o ≡ Some d → (s : Span) × (o ≡ Some s) × (d ≡ at_span f s)
  spanned f None d e = cc
  spanned f (Some s) d e = let is : d ≡ at_span f s = cc in (s, refl, is)

  step : (f : Fault) (fs : List Fault) (d : Diagnostic) (o : Option Diagnostic) (ds : List Diagnostic) → diagnostic_at nodes f ≡ o
      → (Contains ds d → Placed fs d) → Contains (cons_option o ds) d → Placed (f ∷ fs) d
  step f fs d None ds is rest h = let r = rest h in (r.0, r.1, tail f r.0 fs r.2, r.3, r.4)
  step f fs d (Some x) ds is rest h = by (head_or_tail x d ds h)
    where
      by : ((x ≡ d) ⊎ Contains ds d) → Placed (f ∷ fs) d
      by (inl e) = let s = spanned f (place nodes f.item f.part) d (is ∙ ap (λ y. Some y) e) in (f, s.0, contains_head f fs, s.1, s.2)
      by (inr there) = let r = rest there in (r.0, r.1, tail f r.0 fs r.2, r.3, r.4)

  found : (fs : List Fault) (d : Diagnostic) → Contains (filter_map (diagnostic_at nodes) fs) d → Placed fs d
  found [] d h = absurd (none_said d h)
  found (f ∷ fs) d h = step f fs d (diagnostic_at nodes f) (filter_map (diagnostic_at nodes) fs) refl (found fs d) h

  later : (o : Option Diagnostic) (ds : List Diagnostic) (d : Diagnostic) → Contains ds d → Contains (cons_option o ds) d
  later None ds d h = h
  later (Some x) ds d h = tail x d ds h

  here : (f : Fault) (s : Span) (ds : List Diagnostic) → place nodes f.item f.part ≡ Some s → Contains (cons_option (diagnostic_at nodes f) ds) (at_span f s)
  here f s ds is = subst (λ (o : Option Span). Contains (cons_option (option_map (at_span f) o) ds) (at_span f s)) (sym is) (contains_head (at_span f s) ds)

  kept : (fs : List Fault) (f : Fault) (s : Span) → Contains fs f → place nodes f.item f.part ≡ Some s → Contains (filter_map (diagnostic_at nodes) fs) (at_span f s)
  kept [] f s h is = absurd (none_said f h)
  kept (g ∷ gs) f s h is = by (λ there. kept gs f s there is) (head_or_tail g f gs h)
    where
      by : (Contains gs f → Contains (filter_map (diagnostic_at nodes) gs) (at_span f s)) → ((g ≡ f) ⊎ Contains gs f) → Contains (filter_map (diagnostic_at nodes) (g ∷ gs)) (at_span f s)
      by rest (inl e) = subst (λ (x : Fault). Contains (cons_option (diagnostic_at nodes x) (filter_map (diagnostic_at nodes) gs)) (at_span f s)) (sym e) (here f s (filter_map (diagnostic_at nodes) gs) is)
      by rest (inr there) = later (diagnostic_at nodes g) (filter_map (diagnostic_at nodes) gs) (at_span f s) (rest there)

pub each_is_diagnostic : (other : Bool) (fs : List Fault) (p : Parsed) (d : Diagnostic) → Contains (parsed_diagnostics other fs p) d ↔ IsDiagnostic other fs p d
each_is_diagnostic other fs (Tree nodes) d =
    let same = members_in_order diagnostics_total diagnostics_exact (filter_map (diagnostic_at nodes) fs) d in
    (λ h. found nodes fs d (same.0 h), λ p. same.1 (subst (λ (x : Diagnostic). Contains (filter_map (diagnostic_at nodes) fs) x) (sym p.4) (kept nodes fs p.0 p.1 p.2 p.3)))
each_is_diagnostic other fs (SyntaxFault span c) d =
    let x = syntax_diagnostic other span c in
    (λ h. only_one x d h, λ e. subst (λ (y : Diagnostic). Contains (x ∷ []) y) (sym e) (contains_head x []))
