-- A temporary gets a comparison's verdict: code makes the word only to save it, and makes it again where it is used.
use Rattle.std.specs.Prelude.{if◌then◌else◌}
use Rattle.std.proofs.Common.{◌≡◌, ℕ, ◌+◌, ◌^◌, ◌<◌, Bool, true, false, List, ◌∷◌, ◌++◌, [], refl, sym, subst}
use Rattle.core_meaning.specs.Memory.{Content, Memory}
use Rattle.core_meaning.specs.Steps.{set_temp}
use Rattle.core_lines.specs.declared.comparison.Comparison.{Comparison}
use Rattle.core_lines.specs.declared.comparison.NumberComparison.{NumberComparison}
use Rattle.core_lines.specs.declared.line.Line.{Line}
use Rattle.core_lines.specs.Comparisons.{verdict_code}
use Rattle.core_lines.specs.Frames.{save_code, slot_of}
use Rattle.core_lines.specs.Held.{Source, Compared, ComparedWith, Holding, with_source}
use Rattle.core_lines.specs.Lies.{Maps, Shows}
use Rattle.core_lines.specs.Lines.{code_length}
use Rattle.core_lines.specs.Machines.{Machine}
use Rattle.core_lines.specs.Operands.{verdict_kept, numbered_code, numbered_kept}
use Rattle.core_lines.proofs.memory.Relations.{World, IsInOrder, Has, Waiting, Follows, keeping}
use Rattle.core_lines.proofs.memory.Slots.{Kept}
use Rattle.core_lines.proofs.memory.Moving.{Comes, comes_then, comes_as}
use Rattle.core_lines.proofs.frames.Passing.{has_first, has_second}
use Rattle.core_lines.proofs.operations.Registers.{having, is_so, verdict, truth_few, numbered_verdict, numbered_few, not_in_spare, InRegister, IsThere}
use Rattle.core_lines.proofs.operations.Registers.{AreThere}
use Rattle.core_lines.proofs.operations.Registers.{AtWith, AtHolding, with_there, in_turn, saves_new, puts_verdict, puts_numbered, there_kept, there_source}
use Rattle.core_lines.proofs.operations.Registers.{unkept_there}

module _ (w : World) (order : IsInOrder w) (x : Waiting) (outer : List Waiting) (mem : Memory) (after : List Bool) (t place : ℕ)
    (v : Content) (hs : List Holding) (named : t < x.fn.temporaries) where
  module _ (s : Source) where
    abbrev Judged : Maps → (ℕ → ℕ) → Type 0
    Judged m registers = IsThere s v m registers × AreThere hs x.config.temps m registers

    abbrev Made : Maps → (ℕ → ℕ) → Type 0
    Made m registers = InRegister 5 v m registers × Judged m registers

    abbrev Known_after : ℕ → Machine → Type 0
    Known_after at = AtWith w (keeping after (having t v x)) outer mem at (AreThere (with_source t s hs) (set_temp t v x.config.temps))

    judged_known : (m : Maps) (registers : ℕ → ℕ) → Judged m registers → AreThere (with_source t s hs) (set_temp t v x.config.temps) m registers
    judged_known m registers h = there_source t v s hs x.config.temps m registers h.0 h.1

    -- the word that is made
    made : (m : Maps) (new old : ℕ → ℕ) (k : ℕ) → new 5 ≡ k → Shows m v k × (k < 2 ^ 32) → Kept 5 new old → Judged m old → Made m new
    made m new old k is shown kept h = (
      subst (λ k. Shows m v k × (k < 2 ^ 32)) (sym is) shown,
      (not_in_spare 5 s v refl m new old kept h.0, there_kept 4 hs x.config.temps refl m new old kept h.1),
    )

    abbrev kept_lines : Bool → List Line → List Line
    kept_lines keeps lines = (if keeps then lines ++ save_code 5 (slot_of x.fn.passed t) else [])

    saved_there : (keeps : Bool) (lines : List Line) → Follows keeps (t ∷ []) x.kept after
        → (Has w place lines → Comes w (AtWith w x outer mem place Judged) (AtWith w x outer mem (place + code_length lines) Made))
        → Has w place (kept_lines keeps lines)
        → Comes w (AtWith w x outer mem place Judged) (Known_after (place + code_length (kept_lines keeps lines)))
    saved_there true lines follows makes has =
        let last = save_code 5 (slot_of x.fn.passed t) in
        in_turn w _ (λ p. AtWith w x outer mem p Made) Known_after place lines last (makes (has_first w place lines last has))
        (saves_new w order x outer mem 4 t (place + code_length lines) v after _ _ named follows refl (λ m registers h. h.0)
        (λ m new old kept h. judged_known m new
        (not_in_spare 7 s v refl m new old kept h.1.0, there_kept 6 hs x.config.temps refl m new old kept h.1.1))
        (has_second w place lines last has))
    saved_there false lines follows makes has = unkept_there w order x outer mem after t place v Judged _ follows judged_known

    saved_into : (keeps : Bool) (lines : List Line) → Follows keeps (t ∷ []) x.kept after
        → (Has w place lines → Comes w (AtWith w x outer mem place Judged) (AtWith w x outer mem (place + code_length lines) Made))
        → ((m : Machine) (a : AtWith w x outer mem place (AreThere hs x.config.temps) m) → IsThere s v a.maps m.registers)
        → Has w place (kept_lines keeps lines)
        → Comes w (AtHolding w x outer mem place hs)
        (AtHolding w (keeping after (having t v x)) outer mem (place + code_length (kept_lines keeps lines)) (with_source t s hs))
    saved_into keeps lines follows makes shown has =
        comes_then w _ (AtWith w x outer mem place Judged) _
        (comes_as w _ _ (λ m a. let b = with_there w x outer mem place hs m a in record {
          maps = b.maps;
          frame = b.frame;
          others = b.others;
          sp = b.sp;
          stands = b.stands;
          shows = b.shows;
          stack = b.stack;
          holds = (shown m b, b.holds);
        }))
        (saved_there keeps lines follows makes has)

  pub verdict_into : (c : Comparison) (keeps : Bool) → Follows keeps (t ∷ []) x.kept after
      → ((m : Machine) (a : AtWith w x outer mem place (AreThere hs x.config.temps) m) → IsThere (Compared c) v a.maps m.registers)
      → Has w place (verdict_kept keeps x.fn.passed t c)
      → Comes w (AtHolding w x outer mem place hs) (AtHolding w (keeping after (having t v x)) outer mem
      (place + code_length (verdict_kept keeps x.fn.passed t c)) (with_source t (Compared c) hs))
  verdict_into c keeps follows shown has = saved_into (Compared c) keeps (verdict_code 5 c) follows
      (λ has. puts_verdict w order x outer mem 4 c place (Judged (Compared c)) (Made (Compared c)) (λ m registers h. (h.0.1.1, h.0.2.1)) refl has
      (λ m new old is kept h. made (Compared c) m new old (verdict c old) is (h.0.0, truth_few (is_so c old)) kept h))
      shown has

  pub numbered_into : (n : NumberComparison) (keeps : Bool) → Follows keeps (t ∷ []) x.kept after
      → ((m : Machine) (a : AtWith w x outer mem place (AreThere hs x.config.temps) m) → IsThere (ComparedWith n) v a.maps m.registers)
      → Has w place (numbered_kept keeps x.fn.passed t n)
      → Comes w (AtHolding w x outer mem place hs) (AtHolding w (keeping after (having t v x)) outer mem
      (place + code_length (numbered_kept keeps x.fn.passed t n)) (with_source t (ComparedWith n) hs))
  numbered_into n keeps follows shown has = saved_into (ComparedWith n) keeps (numbered_code 5 n) follows
      (λ has. puts_numbered w order x outer mem 4 n place (Judged (ComparedWith n)) (Made (ComparedWith n)) (λ m registers h. (h.0.1, h.0.2)) refl has
      (λ m new old is kept h. made (ComparedWith n) m new old (numbered_verdict n old) is (h.0.0, numbered_few n old) kept h))
      shown has
