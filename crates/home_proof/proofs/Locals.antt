-- The code of what a local begins with: it takes the address of that local where it is no word, and else of words to whose names `&` is applied.
use Rattle.std.proofs.Common.{◌≡◌, ℕ, ◌+◌, List, [], ◌++◌, Bool, true, false, refl, sym, ap, ◌∙◌}
use Rattle.std.proofs.Math.Bool.{and-false}
use Rattle.std.specs.Prelude.{◌||◌, ◌&&◌, not, nat_eq}
use Rattle.std.proofs.lemmas.List.{append-nil}
use Rattle.cyc_tree.specs.Tree.{Expression}
use Rattle.source_meaning.specs.Shapes.{Shape, ThinShape, FatShape, StructShape}
use Rattle.source_meaning.specs.Shapes.{UnionShape, ArrayShape}
use Rattle.source_meaning.specs.Steps.{World}
use Rattle.core_meaning.specs.Core.{Statement}
use Rattle.source_lowering.specs.Members.{words_in}
use Rattle.source_lowering.specs.Lowered.{Named, conversion_code, expression_code, put_local, static_shape}
use Rattle.source_lowering.specs.Programs.{begun_code, unset_code, value_code}
use Rattle.source_lowering.specs.Lowerable.{TakesValue}
use Rattle.home_proof.specs.Arguments.{HasArguments}
use Rattle.home_proof.specs.Names.{is_word, pointed}
use Rattle.home_proof.specs.Numbered.{expression_flags}
use Rattle.home_proof.proofs.Codes.{addresses, addresses_both, and_or, flags_both, flags_of, or_false}
use Rattle.home_proof.proofs.Leads.{Does, Leads}
use Rattle.home_proof.proofs.Pieces.{conversion_plain}
use Rattle.home_proof.proofs.Variables.{elsewhere, stored_flags, stored_free}
use Rattle.home_proof.proofs.Expressions.{expression_does}
use Rattle.home_proof.proofs.Runs.{source_does}

-- ---- code, asked of these homes

pub record DoesAt (at : (out index : ℕ) → Type 0) (names : List Named) (code : List Statement) (points : List ℕ → Bool) (flags : List Bool) : Type 0 where
  pub flagged : flags_of code ≡ flags
  pub pointed : (out index : ℕ) (name : List ℕ) (visible : Bool) → at out index → Leads names out index name visible
      → addresses out index code ≡ (visible && points name)

module _ {at : (out index : ℕ) → Type 0} {names : List Named} where
  pub anywhere : {code : List Statement} {p : List ℕ → Bool} {f : List Bool} → Does names code p f → DoesAt at names code p f
  anywhere h = record { flagged = h.flagged; pointed = λ out index name visible a l. h.pointed out index name visible l }

  pub both_at : {xs ys : List Statement} {p q : List ℕ → Bool} {f g : List Bool} → DoesAt at names xs p f → DoesAt at names ys q g
      → DoesAt at names (xs ++ ys) (λ n. p n || q n) (f ++ g)
  both_at {xs = xs} {ys = ys} {p = p} {q = q} {f = f} {g = g} a b = record {
    flagged = flags_both xs ys ∙ (ap (λ z. z ++ flags_of ys) a.flagged ∙ ap (λ z. f ++ z) b.flagged);
    pointed = λ out index name visible t h.
        addresses_both out index xs ys ∙ (ap (λ z. z || addresses out index ys) (a.pointed out index name visible t h) ∙
        (ap (λ z. (visible && p name) || z) (b.pointed out index name visible t h) ∙ sym (and_or visible (p name) (q name))));
  }

  -- code that takes no such address comes behind
  pub behind_at : {xs : List Statement} {p : List ℕ → Bool} {f : List Bool} (ys : List Statement) → DoesAt at names xs p f → flags_of ys ≡ []
      → ((out index : ℕ) → at out index → addresses out index ys ≡ false) → DoesAt at names (xs ++ ys) p f
  behind_at {xs = xs} {p = p} {f = f} ys a none free = record {
    flagged = flags_both xs ys ∙ (ap (λ z. z ++ flags_of ys) a.flagged ∙ (ap (λ z. f ++ z) none ∙ append-nil f));
    pointed = λ out index name visible t h.
        addresses_both out index xs ys ∙ (ap (λ z. addresses out index xs || z) (free out index t) ∙
        (or_false (addresses out index xs) ∙ a.pointed out index name visible t h));
  }

  pub nothing_at : {code : List Statement} → flags_of code ≡ [] → ((out index : ℕ) → at out index → addresses out index code ≡ false)
      → DoesAt at names code (λ n. false) []
  nothing_at none free = record { flagged = none; pointed = λ out index name visible t h. free out index t ∙ sym (and-false visible) }

-- another home than that of this local of the block, or a word's
abbrev pub Fits : Shape → (count out index : ℕ) → Type 0
Fits s count out index = ((not (nat_eq 0 out && nat_eq count index) || is_word s) ≡ true)

-- ---- initializers

module _ (w : World) (names : List Named) (count : ℕ) where
  begun_does : (s : Shape) (d : ℕ) → is_word s ≡ false → DoesAt (Fits s count) names (begun_code w s d count) (λ n. false) []
  begun_does s d is =
      nothing_at refl (λ out index t. elsewhere (nat_eq 0 out && nat_eq count index) (ap (λ z. not (nat_eq 0 out && nat_eq count index) || z) (sym is) ∙ t))

  pub unset_does : (s : Shape) (d : ℕ) → DoesAt (Fits s count) names (unset_code w s d count) (λ n. false) []
  unset_does (StructShape tag) d = begun_does (StructShape tag) d refl
  unset_does (FatShape to) d = begun_does (FatShape to) d refl
  unset_does (ArrayShape n of) d = begun_does (ArrayShape n of) d refl
  unset_does (ThinShape bound owner to) d = nothing_at refl (λ out index t. refl)
  unset_does _ d = nothing_at refl (λ out index t. refl)

  pub value_does : (s : Shape) (e : Expression) (d own : ℕ) → TakesValue w names s e → HasArguments w e
      → DoesAt (Fits s count) names (value_code w names s e d count own) (λ n. pointed n e) (expression_flags e)
  value_does s e d own h g = by s h
    where
      -- the value is converted, and stored
      word : (of : Shape) → Does names (expression_code w names e d own) (λ n. pointed n e) (expression_flags e)
          → DoesAt (Fits of count) names
          (expression_code w names e d own ++ (conversion_code w of (static_shape w names e) d ++ put_local of d 0 count)) (λ n. pointed n e)
          (expression_flags e)
      word of k =
          let c = conversion_plain w of (static_shape w names e) d in
          let code = conversion_code w of (static_shape w names e) d in
          let put = put_local of d 0 count in
          behind_at (code ++ put) (anywhere k)
          (flags_both code put ∙ (ap (λ z. z ++ flags_of put) c.flags ∙ stored_flags of (d + words_in of) d 0 count))
          (λ out index t. addresses_both out index code put ∙ (ap (λ z. z || addresses out index put) (c.free out index) ∙
          stored_free of (d + words_in of) d 0 count out index t))

      by : (of : Shape) → TakesValue w names of e → DoesAt (Fits of count) names (value_code w names of e d count own) (λ n. pointed n e) (expression_flags e)
      by (StructShape tag) k =
          behind_at _ (anywhere (source_does w names e d own k g)) refl (λ out index t. elsewhere (nat_eq 0 out && nat_eq count index) t)
      by (UnionShape tag) k =
          behind_at _ (anywhere (source_does w names e d own k g)) refl (λ out index t. elsewhere (nat_eq 0 out && nat_eq count index) t)
      by of k = word of (expression_does w names e d own k g)
