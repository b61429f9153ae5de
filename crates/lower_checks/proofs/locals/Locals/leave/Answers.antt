use Rattle.std.proofs.Common.{◌≡◌, ◌∙◌, ap, sym, subst, List, [], ◌∷◌}
use Rattle.std.proofs.lemmas.List.{reverse-append}
use Rattle.std.specs.Prelude.{reverse}
use Rattle.lower_checks.specs.Visible.{left}
use Rattle.lower_checks.specs.Marks.{AreLinked, marks_of}
use Rattle.lower_checks.specs.declared.mark.Mark.{Mark}
use Rattle.lower_checks.specs.declared.mark.Mark.TheVariants.{Declare}
use Rattle.lower_checks.proofs.Linking.{linked_last, linked_less}
use Rattle.lower_checks.proofs.locals.Locals.leave.Goals as goal

pub set-requires : goal.set-requires
set-requires c =
    let rest = reverse c.pop.new.self.items in
    let all : reverse c.marks.self-inside.marks.items ≡ Declare c.in-Declare.local c.in-Declare.hidden ∷ rest =
    ap reverse c.in-Some.ensures.items ∙ reverse-append c.pop.new.self.items (c.in-Some.mark ∷ []) ∙ ap (λ (m : Mark). m ∷ rest) c.in-Declare.is in
    linked_last rest c.in-Declare.local c.in-Declare.hidden c.marks.self-inside.last c.marks.self-inside.depth
    (subst (λ (ms : List Mark). AreLinked ms c.marks.self-inside.last c.marks.self-inside.depth) all c.marks.invariant.linked)

pub marks-preserved : goal.marks-preserved
marks-preserved c =
    let rest = reverse c.pop.new.self.items in
    let all : reverse c.marks.self-inside.marks.items ≡ Declare c.in-Declare.local c.in-Declare.hidden ∷ rest =
    ap reverse c.in-Some.ensures.items ∙ reverse-append c.pop.new.self.items (c.in-Some.mark ∷ []) ∙ ap (λ (m : Mark). m ∷ rest) c.in-Declare.is in
    record {
      linked = linked_less rest c.in-Declare.local c.in-Declare.hidden c.marks.self-inside.last c.set.new.self c.marks.self-inside.depth
          (subst (λ (ms : List Mark). AreLinked ms c.marks.self-inside.last c.marks.self-inside.depth) all c.marks.invariant.linked) c.set.ensures;
      left = ap (λ (ms : List Mark). left (marks_of ms)) (sym all) ∙ c.marks.invariant.left;
    }
