use Rattle.std.proofs.Common.{◌≡◌, ◌∙◌, ◌+◌, ◌-◌, ◌<◌, Bool, false, ℕ, zero, suc, arith, refl, sym, ap, subst, List, [], ◌∷◌, ◌++◌, append-nil, get_or}
use Rattle.std.proofs.Common.{length, take}
use Rattle.std.proofs.lemmas.List.{reverse-append, take_all, take_more}
use Rattle.std.specs.Prelude.{reverse}
use Rattle.core_meaning.specs.Core as core
use Rattle.source_lowering.specs.Programs.{leaving_code, left_by}
use Rattle.lower_checks.specs.Writing.{IsEmitted, IsEmitting, code_of}
use Rattle.lower_checks.specs.declared.body.Body.{Body}
use Rattle.lower_checks.proofs.Items.{left_one}
use Rattle.lower_checks.proofs.Writing.{emitting_more}
use Rattle.lower_checks.proofs.leaving.lower_leaving.Goals as goal

-- the last of so many is the first that is left
last_first : (opened : List Bool) (at less : ℕ) (o : Bool) → at ≡ suc less → less < length opened
    → reverse (take at opened) ≡ get_or opened less o ∷ reverse (take less opened)
last_first opened at less o at_is within =
    let next : at ≡ less + 1 = omega (arith, at_is) in
    ap (λ n. reverse (take n opened)) next ∙ ap reverse (take_more opened less o within)
    ∙ reverse-append (take less opened) (get_or opened less o ∷ [])

pub each-init : goal.each-init
each-init c =
    let opened = c.args.opened.now in
    let at = length opened in
    record {
      within = omega arith;
      code = λ sound. record {
        sound = sound;
        written = ap (λ os. code_of c.args.body.now ++ leaving_code (reverse os) c.args.all c.args.count)
            (take_all at opened (omega arith));
        own = refl;
      };
    }

pub each-preserved : goal.each-preserved
each-preserved c =
    let opened = c.args.opened.now in
    let a = c.args.body.now in
    let b = c.each.body in
    let at = c.each.at in
    let regions = c.each.regions in
    let more = c.each.more in
    let within = c.each.invariant.within in
    record {
      within = omega (arith, within);
      code = λ sound.
          let all = leaving_code (reverse opened) c.args.all c.args.count in
          let o = c.opened_at-by_key.result in
          let before = reverse (take (at - 1) opened) in
          let rest = leaving_code before (regions - 1) (more - 1) in
          let here = core.Do (left_by o (regions - 1)) ∷ [] in
          let at_is : at ≡ suc (at - 1) = omega (arith, c.each-test.true) in
          let regions_is : regions ≡ suc (regions - 1) = omega (arith, c.if-regions-ne0.true) in
          let more_is : more ≡ suc (more - 1) = omega (arith, c.if-more-ne0.true) in
          let first : reverse (take at opened) ≡ o ∷ before =
          last_first opened at (at - 1) false at_is (omega (arith, at_is, within)) ∙ ap (λ k. k ∷ before) (sym c.opened_at-by_key.ensures) in
          let one : leaving_code (reverse (take at opened)) regions more ≡ here ++ rest =
          ap (λ os. leaving_code os regions more) first ∙ left_one o before regions more (regions - 1) (more - 1) regions_is more_is in
          let done = subst (λ k. IsEmitted b c.operation.new.self (core.Do k ∷ [])) c.left_by.ensures (c.operation.ensures sound) in
          emitting_more a b c.operation.new.self all here rest (subst (λ ss. IsEmitting a b all ss) one (c.each.invariant.code done.sound)) done;
    }

all_emitted : (a b : Body) (all left : List core.Statement) → IsEmitting a b all left → left ≡ [] → IsEmitted a b all
all_emitted a b all left is none = record {
  sound = is.sound;
  code = sym (append-nil (code_of b)) ∙ ap (λ ss. code_of b ++ ss) (sym none) ∙ is.written;
  own = is.own;
}

none_opened : (opened : List Bool) (all count : ℕ) → opened ≡ [] → leaving_code opened all count ≡ []
none_opened [] all zero none = refl
none_opened [] all (suc count) none = refl
none_opened (o ∷ os) all count none = absurd cc none

none_freed : (opened : List Bool) (all count : ℕ) → all ≡ 0 → leaving_code opened all count ≡ []
none_freed opened (suc all) count none = absurd cc none
none_freed [] zero zero none = refl
none_freed [] zero (suc count) none = refl
none_freed (o ∷ os) zero zero none = refl
none_freed (o ∷ os) zero (suc count) none = refl

pub returns-after-each : goal.returns-after-each
returns-after-each c sound =
    let none : c.each.at ≡ 0 = omega (arith, c.each-test.false) in
    let left = reverse (take c.each.at c.args.opened.now) in
    all_emitted c.args.body.now c.each.body (leaving_code (reverse c.args.opened.now) c.args.all c.args.count) (leaving_code left c.each.regions c.each.more)
    (c.each.invariant.code sound) (none_opened left c.each.regions c.each.more (ap (λ n. reverse (take n c.args.opened.now)) none))

pub returns-else-regions-ne0 : goal.returns-else-regions-ne0
returns-else-regions-ne0 c sound =
    let none : c.each.regions ≡ 0 = omega (arith, c.if-regions-ne0.false) in
    let left = reverse (take c.each.at c.args.opened.now) in
    all_emitted c.args.body.now c.each.body (leaving_code (reverse c.args.opened.now) c.args.all c.args.count) (leaving_code left c.each.regions c.each.more)
    (c.each.invariant.code sound) (none_freed left c.each.regions c.each.more none)
