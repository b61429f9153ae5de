-- The memory at the start, before its cells have types, is well formed: so what is proved of such memories speaks of some.
use Rattle.std.proofs.Common.{◌≡◌, ℕ, Bool, true, false, None, List, refl, sym, ◌∙◌, ap, subst, arith, if◌then◌else◌}
use Rattle.std.specs.Prelude.{◌&&◌}
use Rattle.std.proofs.lemmas.Bool.{and_parts}
use Rattle.source_meaning.specs.Memory.{Region, Frame, Born, Object, Live, Closed, Dead, same_region}
use Rattle.source_meaning.specs.Programs.{heap_alone}
use Rattle.source_meaning.proofs.Cases.{region_is}
use Rattle.type_proof.specs.Flat.{Tables}
use Rattle.type_proof.proofs.invariant.Facts.{if_cases, at_region}
use Rattle.type_proof.proofs.invariant.Invariant.{heap, Nobody, Ghost, ByScope, Known, Inv}

abbrev pub first_ghost : Ghost
first_ghost = record { types = λ s. None; above = λ q r. same_region q heap && same_region r heap; owner = λ r. Nobody; keyed = λ r. false }

upper_is : (q r : Region) → first_ghost.above q r ≡ true → q ≡ heap
upper_is q r e = region_is q heap (and_parts _ _ e).0

lower_is : (q r : Region) → first_ghost.above q r ≡ true → r ≡ heap
lower_is q r e = region_is r heap (and_parts _ _ e).1

both_heap : (q r : Region) → q ≡ heap → r ≡ heap → first_ghost.above q r ≡ true
both_heap q r a b = ap (λ (x : Bool). x && same_region r heap) (ap (λ (x : Region). same_region x heap) a) ∙ ap (λ (x : Region). same_region x heap) b

known_is : (os : List Object) (r : Region) → Known (heap_alone os) r → r ≡ heap
known_is os (Frame k) h = absurd (omega (arith, h))
known_is os (Born k) h = ap (λ (x : ℕ). Born x) (omega (arith, h))

pub first_inv : (d : Tables) (os : List Object) → Inv d first_ghost (heap_alone os)
first_inv d os = record {
  cells = λ s k e. absurd (cc);
  counted = λ s k e. absurd (cc);
  states = λ r. at_region (λ x. Dead) heap Live r (λ x. x ≡ Closed → ⊥) (λ e z. cc) (λ e z. cc);
  closed = λ r q l e. ap (λ (x : Region). if same_region x heap then Live else Dead) (upper_is q r e);
  rests = λ r q l e n. ByScope;
  sole = λ r q n e ne. absurd (n refl);
  itself = λ r h. both_heap r r (known_is os r h) (known_is os r h);
  under_heap = λ r h. both_heap heap r refl (known_is os r h);
  top = λ q e. upper_is q heap e;
  heap_lives = refl;
  heap_is_free = refl;
  frames = λ j. refl;
  unborn = λ r n. at_region (λ x. Dead) heap Live r (λ x. x ≡ Dead) (λ e. absurd (n (subst (λ (x : Region). Known (heap_alone os) x) (sym e) (omega arith))))
      (λ e. refl);
  unowned = λ r n. refl;
  empty = λ r n. if_cases (same_region r heap) _ 0 (λ x. x ≡ 0)
      (λ e. absurd (n (subst (λ (x : Region). Known (heap_alone os) x) (sym (region_is r heap e)) (omega arith)))) (λ e. refl);
  born_upper = λ q r e. subst (λ (x : Region). Known (heap_alone os) x) (sym (upper_is q r e)) (omega arith);
  born_lower = λ q r e. subst (λ (x : Region). Known (heap_alone os) x) (sym (lower_is q r e)) (omega arith);
  along = λ p q r e h. both_heap p r (upper_is p q e) (lower_is q r h);
}
