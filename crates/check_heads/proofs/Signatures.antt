-- What the name of a function means, by its head.
use Rattle.std.proofs.Common.{◌≡◌, true, false, Option, Some, None, refl, sym, ◌∙◌, ap, subst}
use Rattle.std.specs.Prelude.{is_none, is_some, map, option_map}
use Rattle.cyc_types.specs.Regions.{regions_of}
use Rattle.cyc_types.specs.Types.{static_type}
use Rattle.check_scopes.specs.Means.{Means, signature_of}
use Rattle.check_scopes.specs.Means as means
use Rattle.check_scopes.specs.declared.meaning.Meaning.TheVariants as code
use Rattle.check_scopes.specs.declared.meaning.Signature as head
use Rattle.check_regions.specs.Fields.{pair_of}
use Rattle.source_typing.specs.Functions as rules
use Rattle.source_typing.specs.Tables.{OfFunction, Signature}
use Rattle.check_faults.specs.declared.fault.Fault.{Fault}
use Rattle.check_heads.specs.Bodies.{types_of}
use Rattle.check_heads.specs.Heads.{IsHead, known_static}
use Rattle.check_heads.specs.declared.head.Head as found
use Rattle.cyc_tree.specs.Tree as tree

same_signature : (s : head.Signature) (t : Signature) → s.regions ≡ t.regions → map (option_map static_type) s.parameters.items ≡ t.parameters
    → option_map static_type s.result ≡ t.result → regions_of s.effect.items ≡ t.effect → s.bounds ≡ t.bounds → true ≡ t.sound
    → signature_of s ≡ t
same_signature s t a b c d e k = λ i. record { regions = a i; parameters = b i; result = c i; effect = d i; bounds = e i; sound = k i }

at_fault : (o : Option Fault) → is_some o ≡ true → is_none o ≡ false
at_fault None e = absurd cc
at_fault (Some f) e = refl

pub none_at_fault : (o : Option Fault) → is_some o ≡ false → o ≡ None
none_at_fault None e = refl
none_at_fault (Some f) e = absurd cc

module _ (c : found.Head) (f : tree.Function) (h : rules.Head) (is : IsHead c f h) where
  pub unsound_means : is_some c.fault ≡ true → Means (Some (OfFunction h.signature)) (Some code.NotKnown)
  unsound_means e = means.Means.UnsoundFunction h.signature (sym is.sound ∙ at_fault c.fault e)

  pub sound_means : (s : head.Signature) → c.fault ≡ None → s.regions ≡ c.variables.count
      → map (option_map static_type) s.parameters.items ≡ types_of c.parameters.items → option_map static_type s.result ≡ known_static c.result
      → s.effect ≡ c.effect → s.bounds ≡ map pair_of c.bounds.items
      → Means (Some (OfFunction h.signature)) (Some (code.Function s))
  sound_means s none regions parameters result effect bounds =
      subst (λ (t : Signature). Means (Some (OfFunction t)) (Some (code.Function s)))
      (same_signature s h.signature (regions ∙ is.count) (parameters ∙ is.types)
      (result ∙ is.result)
      (ap (λ rs. regions_of rs.items) effect ∙ is.effect) (bounds ∙ is.bounds) (sym (ap is_none none) ∙ is.sound))
      (means.Means.Function s)
