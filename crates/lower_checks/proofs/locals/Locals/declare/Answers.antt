use Rattle.std.proofs.Common.{◌≡◌, ◌∙◌, ◌-◌, List, [], ◌∷◌, length, take, refl, sym, ap, ap₂, subst, arith, length-append}
use Rattle.std.proofs.Math.Seq.{take-append_seam}
use Rattle.std.proofs.lemmas.List.{reverse-append}
use Rattle.std.specs.Prelude.{reverse}
use Rattle.lower_checks.specs.Marks.{AreLinked}
use Rattle.lower_checks.specs.declared.mark.Local.{Local}
use Rattle.lower_checks.specs.declared.mark.Mark.{Mark}
use Rattle.lower_checks.specs.declared.mark.Mark.TheVariants.{Declare}
use Rattle.lower_checks.proofs.Linking.{linked_more, linked_same}
use Rattle.lower_checks.proofs.locals.Locals.declare.Goals as goal

pub invariant_of-self-in-Ok : goal.invariant_of-self-in-Ok
invariant_of-self-in-Ok c =
    let old = c.self.inside in
    let l : Local = record { name = c.deref.result; stored = c.args.stored; index = c.args.index; depth = old.depth } in
    let m = Declare l c.of-hidden.result in
    let marks : reverse c.push.new.self.items ≡ m ∷ reverse old.marks.items =
    ap reverse c.in_default.ensures.items ∙ reverse-append old.marks.items (m ∷ []) in
    subst (λ (ms : List Mark). AreLinked ms c.add.new.self old.depth) (sym marks)
    (linked_more (reverse old.marks.items) l c.of-hidden.result old.last c.add.new.self old.depth c.self.invariant c.of-hidden.ensures refl
    c.in-Ok.ensures.added)

-- the mark goes again
pub invariant_of-self-in-Err-add : goal.invariant_of-self-in-Err-add
invariant_of-self-in-Err-add c =
    let old = c.self.inside in
    let l : Local = record { name = c.deref.result; stored = c.args.stored; index = c.args.index; depth = old.depth } in
    let m = Declare l c.of-hidden.result in
    let count : c.push.new.self.len - 1 ≡ length old.marks.items =
    omega (arith, c.push.new.self.ok.0, ap length c.in_default.ensures.items, length-append old.marks.items (m ∷ [])) in
    let kept : c.pop.new.self.items ≡ old.marks.items =
    c.pop.ensures.rest ∙ ap₂ take count c.in_default.ensures.items ∙ take-append_seam old.marks.items (m ∷ []) in
    subst (λ (items : List Mark). AreLinked (reverse items) c.add.new.self old.depth) (sym kept)
    (linked_same (reverse old.marks.items) old.last c.add.new.self old.depth c.self.invariant c.in-Err-add.ensures.kept)
