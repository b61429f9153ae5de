-- What is found of structs and unions one after another, each by those before it, is found by all of them as well.
use Rattle.std.proofs.Common.{◌≡◌, ℕ, Bool, true, false, Bor, List, [], ◌∷◌, ◌++◌, refl, sym, ap, subst, ◌∙◌, cond, true≢false}
use Rattle.std.proofs.lemmas.Bool.{and_parts}
use Rattle.std.proofs.lemmas.List.{append_assoc, append-nil}
use Rattle.std.proofs.lemmas.Slice.Eq.{bytes_eq-Decides}
use Rattle.std.specs.Prelude.{None, Some, bytes_eq, is_none, is_some}
use Rattle.source_typing.specs.Tables.{each_part}
use Rattle.cyc_types.specs.Cells.{spread, with_tag}
use Rattle.cyc_types.specs.InOrder.{are_known, is_known}
use Rattle.cyc_types.specs.Known.{Entry, found, is_declared}
use Rattle.cyc_types.specs.Tags.{members_of}
use Rattle.cyc_types.specs.declared.tag.Known.{Known}
use Rattle.cyc_types.proofs.InLayouts.{kept}
use Rattle.cyc_types.proofs.InOrder.{facts, found_here, known_at, split}

known_after : (acc before es : List Entry) → are_known acc (before ++ es) ≡ true → are_known (acc ++ before) es ≡ true
known_after acc [] es h = subst (λ l. are_known l es ≡ true) (sym (append-nil acc)) h
known_after acc (b ∷ bs) es h =
    subst (λ l. are_known l es ≡ true) (append_assoc acc (b ∷ []) bs)
    (known_after (acc ++ b ∷ []) bs es ((and_parts (is_known acc b.0.now b.1) (are_known (acc ++ b ∷ []) (bs ++ es)) h).1))

-- a declared name isn't that of a new one
other_name : (before : List Entry) (x tag : List ℕ) (k : Known) → found before tag ≡ Some k → is_none (found before x) ≡ true → bytes_eq tag x ≡ false
other_name before x tag k here new = by (bytes_eq tag x) refl
  where
    by : (b : Bool) → bytes_eq tag x ≡ b → b ≡ false
    by true e = absurd (true≢false (sym new ∙ ap is_none (subst (λ y. found before y ≡ Some k) ((bytes_eq-Decides tag x).0 e) here)))
    by false e = refl

module _ {A : Type 0} (of : (List ℕ → A) → Known → A) where
  pub spread_more : (so_far : List ℕ → A) (es fs : List Entry) → spread of so_far (es ++ fs) ≡ spread of (spread of so_far es) fs
  spread_more so_far [] fs = refl
  spread_more so_far (e ∷ es) fs = spread_more (with_tag e.0.now (of so_far e.1) so_far) es fs

  -- what isn't among them
  pub not_spread : (so_far : List ℕ → A) (es : List Entry) (tag : List ℕ) → found es tag ≡ None → spread of so_far es tag ≡ so_far tag
  not_spread so_far [] tag h = refl
  not_spread so_far (e ∷ es) tag h =
      by (bytes_eq tag e.0.now) refl h (not_spread (with_tag e.0.now (of so_far e.1) so_far) es tag)
    where
      by : (b : Bool) → bytes_eq tag e.0.now ≡ b → cond b (Some e.1) (found es tag) ≡ None
          → (found es tag ≡ None → spread of (with_tag e.0.now (of so_far e.1) so_far) es tag ≡ with_tag e.0.now (of so_far e.1) so_far tag)
          → spread of (with_tag e.0.now (of so_far e.1) so_far) es tag ≡ so_far tag
      by true same h ih = absurd (true≢false (ap is_some h))
      by false same h ih = ih h ∙ ap (λ b. cond b (of so_far e.1) (so_far tag)) same

  -- what is found of one stays so
  pub still : (so_far : List ℕ → A) (before es : List Entry) (tag : List ℕ) (k : Known) → are_known before es ≡ true → found before tag ≡ Some k
      → spread of so_far es tag ≡ so_far tag
  still so_far before [] tag k known h = refl
  still so_far before (e ∷ es) tag k known h =
      let both = and_parts (is_known before e.0.now e.1) (are_known (before ++ e ∷ []) es) known in
      let other : bytes_eq tag e.0.now ≡ false = other_name before e.0.now tag k h (facts before e.0.now e.1 both.0).new in
      still (with_tag e.0.now (of so_far e.1) so_far) (before ++ e ∷ []) es tag k both.1 (kept before (e ∷ []) tag k h)
      ∙ ap (λ b. cond b (of so_far e.1) (so_far tag)) other

  -- what is found of one depends on what is found of its members alone
  abbrev pub ByMembers : Known → Type 0
  ByMembers k = (f g : List ℕ → A) (before : List Entry) → each_part (is_declared before) (members_of k.tag.members.items) ≡ true
      → ((tag : List ℕ) (j : Known) → found before tag ≡ Some j → f tag ≡ g tag) → of f k ≡ of g k

  spread_here : (so_far : List ℕ → A) (before after : List Entry) (at : Bor (List ℕ)) (k : Known) → are_known [] (before ++ (at, k) ∷ after) ≡ true
      → ByMembers k → spread of so_far (before ++ (at, k) ∷ after) at.now ≡ of (spread of so_far (before ++ (at, k) ∷ after)) k
  spread_here so_far before after at k known by_members =
      let first = spread of so_far before in
      let all = spread of so_far (before ++ (at, k) ∷ after) in
      let own = facts before at.now k (known_at [] before after (at, k) known) in
      let more : are_known before ((at, k) ∷ after) ≡ true = known_after [] before ((at, k) ∷ after) known in
      let later : are_known (before ++ (at, k) ∷ []) after ≡ true = (and_parts (is_known before at.now k) (are_known (before ++ (at, k) ∷ []) after) more).1 in
      let whole : all ≡ spread of first ((at, k) ∷ after) = spread_more so_far before ((at, k) ∷ after) in
      let agree : (tag : List ℕ) (j : Known) → found before tag ≡ Some j → first tag ≡ all tag =
      λ tag j h. sym (ap (λ (f : List ℕ → A). f tag) whole ∙ still first before ((at, k) ∷ after) tag j more h) in
      ap (λ (f : List ℕ → A). f at.now) whole
      ∙ still (with_tag at.now (of first k) first) (before ++ (at, k) ∷ []) after at.now k later (found_here before [] at k own.new)
      ∙ ap (λ b. cond b (of first k) (first at.now)) ((bytes_eq-Decides at.now at.now).1 refl)
      ∙ by_members first all before own.declared agree

  pub spreads : (so_far : List ℕ → A) (all : List Entry) (tag : List ℕ) (k : Known) → are_known [] all ≡ true → found all tag ≡ Some k → ByMembers k
      → spread of so_far all tag ≡ of (spread of so_far all) k
  spreads so_far all tag k known h by_members =
      let s = split all tag k h in
      let here = spread_here so_far s.before s.after s.at k (subst (λ l. are_known [] l ≡ true) s.is known) by_members in
      subst (λ l. spread of so_far l tag ≡ of (spread of so_far l) k) (sym s.is)
      (subst (λ x. spread of so_far (s.before ++ (s.at, k) ∷ s.after) x ≡ of (spread of so_far (s.before ++ (s.at, k) ∷ s.after)) k) s.spelling here)
