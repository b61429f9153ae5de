-- The active calls that are known, where a call is entered or left.
use Rattle.std.proofs.Common.{◌≡◌, ◌↔◌, IsSome, ℕ, suc, ◌-◌, ◌^◌, ◌<◌, List, [], ◌∷◌, ◌++◌, Option, Some, None, option_to_list, length, nat_lt}
use Rattle.std.proofs.Common.{reverse, refl, sym, ap, ◌∙◌, arith}
use Rattle.std.proofs.lemmas.Bool.{false≢true}
use Rattle.std.proofs.lemmas.List.{append-nil, reverse-append}
use Rattle.cyc_words.specs.Devices.{one_more}
use Rattle.cyc_host.specs.declared.calls.Active.{Active}
use Rattle.cyc_host.specs.Watched.{Known, AreActive, addresses, left_behind}

abbrev known : List Active → ℕ → Known
known items unkept = record { kept = addresses items; unkept = unkept }

addresses_more : (items : List Active) (call : Active) → addresses (items ++ call ∷ []) ≡ addresses items ++ call.at ∷ []
addresses_more [] call = refl
addresses_more (first ∷ items) call = ap (λ (l : List ℕ). first.at ∷ l) (addresses_more items call)

-- the last one that is kept is the innermost
last_first : (items : List Active) (call : Active) → reverse (addresses (items ++ call ∷ [])) ≡ call.at ∷ reverse (addresses items)
last_first items call = ap (λ (l : List ℕ). reverse l) (addresses_more items call) ∙ reverse-append (addresses items) (call.at ∷ [])

more_few : (old new : ℕ) → new ≡ one_more old → new < 2 ^ 64 - 1 → old < 2 ^ 64 - 1
more_few old new more few = grind (arith, nat_lt)

more_one : (old new : ℕ) → new ≡ one_more old → new < 2 ^ 64 - 1 → suc old ≡ new
more_one old new more few = grind (arith, nat_lt)

none_inner : (inner : List ℕ) → length inner ≡ 0 → inner ≡ []
none_inner [] none = refl
none_inner (c ∷ inner) none = absurd (omega (arith, none))

-- ---- a call is entered

-- one that isn't kept
pub entered_inside : (items items_new : List Active) (old new at : ℕ) (calls : List ℕ) → items_new ≡ items → new ≡ one_more old
    → AreActive (record { kept = addresses items; unkept = old }) calls → AreActive (record { kept = addresses items_new; unkept = new }) (at ∷ calls)
entered_inside items items_new old new at calls same more were = record {
  inner = at ∷ were.inner;
  many = λ few. ap suc (were.many (more_few old new more few)) ∙ more_one old new more few;
  all = λ few. ap (λ (l : List ℕ). at ∷ l) (were.all (more_few old new more few))
      ∙ ap (λ (l : List Active). at ∷ (were.inner ++ reverse (addresses l))) (sym same);
}

-- one that is
pub entered_kept : (items items_new : List Active) (call : Active) (old new : ℕ) (calls : List ℕ) → items_new ≡ items ++ call ∷ [] → old ≡ 0 → new ≡ old
    → AreActive (record { kept = addresses items; unkept = old }) calls
    → AreActive (record { kept = addresses items_new; unkept = new }) (call.at ∷ calls)
entered_kept items items_new call old new calls more none same were =
    let few : old < 2 ^ 64 - 1 = omega (arith, none) in
    let nobody : were.inner ≡ [] = none_inner were.inner (were.many few ∙ none) in
    record {
      inner = [];
      many = λ _. sym none ∙ sym same;
      all = λ _. ap (λ (l : List ℕ). call.at ∷ l) (were.all few ∙ ap (λ (l : List ℕ). l ++ reverse (addresses items)) nobody)
          ∙ sym (last_first items call) ∙ ap (λ (l : List Active). reverse (addresses l)) (sym more);
    }

-- ---- the innermost is left

-- where they aren't counted
pub left_uncounted : (items_new : List Active) (new : ℕ) (calls : List ℕ) → new ≡ 2 ^ 64 - 1
    → AreActive (record { kept = addresses items_new; unkept = new }) calls
left_uncounted items_new new calls most = record {
  inner = [];
  many = λ few. absurd (omega (arith, most, few));
  all = λ few. absurd (omega (arith, most, few));
}

fewer_inner : (inner : List ℕ) (old new : ℕ) → 0 < old → old ≡ suc new → length inner ≡ old → length (left_behind inner) ≡ new
fewer_inner [] old new some one many = absurd (omega (arith, some, many))
fewer_inner (c ∷ inner) old new some one many = omega (arith, one, many)

rest_inner : (inner others : List ℕ) → 0 < length inner → left_behind (inner ++ others) ≡ left_behind inner ++ others
rest_inner [] others some = absurd (omega (arith, some))
rest_inner (c ∷ inner) others some = refl

-- one that wasn't kept
pub left_inside : (items items_new : List Active) (old new : ℕ) (calls : List ℕ) → items_new ≡ items → 0 < old → old < 2 ^ 64 - 1 → old ≡ suc new
    → AreActive (record { kept = addresses items; unkept = old }) calls → AreActive (record { kept = addresses items_new; unkept = new }) (left_behind calls)
left_inside items items_new old new calls same some few one were =
    let long : 0 < length were.inner = omega (arith, some, were.many few) in
    record {
      inner = left_behind were.inner;
      many = λ _. fewer_inner were.inner old new some one (were.many few);
      all = λ _. ap left_behind (were.all few) ∙ rest_inner were.inner (reverse (addresses items)) long
          ∙ ap (λ (l : List Active). left_behind were.inner ++ reverse (addresses l)) (sym same);
    }

-- one that was, if there is one
pub left_kept : (items items_new : List Active) (left : Option Active) (old new : ℕ) (calls : List ℕ) → items ≡ items_new ++ option_to_list left
    → (IsSome left ↔ (0 < length items)) → old ≡ 0 → new ≡ old → AreActive (record { kept = addresses items; unkept = old }) calls
    → AreActive (record { kept = addresses items_new; unkept = new }) (left_behind calls)
left_kept items items_new (Some call) old new calls one some none same were =
    let few : old < 2 ^ 64 - 1 = omega (arith, none) in
    let nobody : were.inner ≡ [] = none_inner were.inner (were.many few ∙ none) in
    record {
      inner = [];
      many = λ _. sym none ∙ sym same;
      all = λ _. ap left_behind (were.all few ∙ ap (λ (l : List ℕ). l ++ reverse (addresses items)) nobody
          ∙ ap (λ (l : List Active). reverse (addresses l)) one ∙ last_first items_new call);
    }
left_kept [] items_new None old new calls one some none same were =
    let few : old < 2 ^ 64 - 1 = omega (arith, none) in
    let nobody : were.inner ≡ [] = none_inner were.inner (were.many few ∙ none) in
    let empty : items_new ≡ [] = sym (one ∙ append-nil items_new) in
    record {
      inner = [];
      many = λ _. sym none ∙ sym same;
      all = λ _. ap left_behind (were.all few ∙ ap (λ (l : List ℕ). l ++ []) nobody) ∙ ap (λ (l : List Active). reverse (addresses l)) (sym empty);
    }
left_kept (call ∷ items) items_new None old new calls one some none same were = absurd (false≢true (some.1 (omega arith)))
