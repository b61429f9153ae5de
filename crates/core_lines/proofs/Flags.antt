-- Flags of temporaries: what is flagged where some of them were flagged or not any more.
use Rattle.std.specs.Prelude.{nat_eq, ◌||◌, length, drop}
use Rattle.std.proofs.Common.{◌≡◌, ℕ, zero, suc, ◌≤◌, ◌<◌, ◌⊎◌, ⊎_elim, inl, inr, Bool, true, false, List, [], ◌∷◌, ◌++◌, refl, sym, ap, subst, ◌∙◌, arith}
use Rattle.std.proofs.Math.Seq.{drop-append_seam}
use Rattle.std.proofs.lemmas.Bool.{eqb-true, eqb-false, ne_eqb, or_from, or_parts}
use Rattle.core_lines.specs.Homes.{is_among, flag_at}
use Rattle.core_lines.specs.Saved.{no_flags, cleared, flagged, all_flagged, either_flagged, either_way, flags_of}
use Rattle.core_meaning.specs.Selectable.{AreBelow}
use Rattle.core_lines.proofs.memory.Relations.{Covers, Follows, AreFlagged}

-- ---- how many there are

pub length_none : (n : ℕ) → length (no_flags n) ≡ n
length_none zero = refl
length_none (suc n) = ap suc (length_none n)

pub length_cleared : (bs : List Bool) → length (cleared bs) ≡ length bs
length_cleared [] = refl
length_cleared (b ∷ bs) = ap suc (length_cleared bs)

length_flagged : (value : Bool) (t : ℕ) (bs : List Bool) → length (flagged value t bs) ≡ length bs
length_flagged value t [] = refl
length_flagged value zero (b ∷ bs) = refl
length_flagged value (suc t) (b ∷ bs) = ap suc (length_flagged value t bs)

pub length_all : (value : Bool) (ts : List ℕ) (bs : List Bool) → length (all_flagged value ts bs) ≡ length bs
length_all value [] bs = refl
length_all value (t ∷ ts) bs = length_all value ts (flagged value t bs) ∙ length_flagged value t bs

pub length_either : (bs cs : List Bool) → length bs ≡ length cs → length (either_flagged bs cs) ≡ length cs
length_either [] cs same = refl
length_either (b ∷ bs) [] same = same
length_either (b ∷ bs) (c ∷ cs) same = let others : length bs ≡ length cs = omega (arith, same) in ap suc (length_either bs cs others)

pub length_way : (only : Bool) (ts : List ℕ) (bs cs : List Bool) → length bs ≡ length cs → length (either_way only ts bs cs) ≡ length cs
length_way true ts bs cs same = length_all true ts bs ∙ same
length_way false ts bs cs same = length_either bs cs same

pub length_flags_of : (bs : List Bool) (ts : List ℕ) → length (flags_of bs ts) ≡ length ts
length_flags_of bs [] = refl
length_flags_of bs (t ∷ ts) = ap suc (length_flags_of bs ts)

-- those behind the first ones
pub flags_behind : (count : ℕ) (flags first rest : List Bool) → length first ≡ count → flags ≡ first ++ rest → drop count flags ≡ rest
flags_behind count flags first rest as_many are =
    ap (drop count) are ∙ ap (λ k. drop k (first ++ rest)) (sym as_many) ∙ drop-append_seam first rest

-- ---- one

flag_other : (value : Bool) (t u : ℕ) (bs : List Bool) → nat_eq u t ≡ false → flag_at (flagged value t bs) u ≡ flag_at bs u
flag_other value t u [] other = refl
flag_other value zero zero (b ∷ bs) other = absurd (cc other)
flag_other value zero (suc u) (b ∷ bs) other = refl
flag_other value (suc t) zero (b ∷ bs) other = refl
flag_other value (suc t) (suc u) (b ∷ bs) other = flag_other value t u bs (ne_eqb u t (λ e. eqb-false (suc u) (suc t) other (ap suc e)))

flag_here : (t : ℕ) (bs : List Bool) → t < length bs → flag_at (flagged true t bs) t ≡ true
flag_here t [] less = absurd (omega (arith, less))
flag_here zero (b ∷ bs) less = refl
flag_here (suc t) (b ∷ bs) less = flag_here t bs (omega (arith, less))

flag_stays : (t u : ℕ) (bs : List Bool) → flag_at bs u ≡ true → flag_at (flagged true t bs) u ≡ true
flag_stays t u [] is = is
flag_stays zero zero (b ∷ bs) is = refl
flag_stays zero (suc u) (b ∷ bs) is = is
flag_stays (suc t) zero (b ∷ bs) is = is
flag_stays (suc t) (suc u) (b ∷ bs) is = flag_stays t u bs is

flag_gone : (t u : ℕ) (bs : List Bool) → flag_at (flagged false t bs) u ≡ true → nat_eq u t ≡ false
flag_gone t u [] is = absurd (cc is)
flag_gone zero zero (b ∷ bs) is = absurd (cc is)
flag_gone zero (suc u) (b ∷ bs) is = ne_eqb (suc u) zero (λ e. omega (arith, e))
flag_gone (suc t) zero (b ∷ bs) is = ne_eqb zero (suc t) (λ e. omega (arith, e))
flag_gone (suc t) (suc u) (b ∷ bs) is = let other = flag_gone t u bs is in ne_eqb (suc u) (suc t) (λ e. eqb-false u t other (omega (arith, e)))

-- ---- several

all_stay : (ts : List ℕ) (bs : List Bool) (u : ℕ) → flag_at bs u ≡ true → flag_at (all_flagged true ts bs) u ≡ true
all_stay [] bs u is = is
all_stay (t ∷ ts) bs u is = all_stay ts (flagged true t bs) u (flag_stays t u bs is)

-- what was flagged before is, and so are those that are flagged
pub more_flagged : (ts : List ℕ) (bs : List Bool) → Covers (all_flagged true ts bs) bs
more_flagged ts bs u is = all_stay ts bs u is

pub all_are_flagged : (ts : List ℕ) (bs : List Bool) → AreBelow (length bs) ts → AreFlagged (all_flagged true ts bs) ts
all_are_flagged [] bs below = tt
all_are_flagged (t ∷ ts) bs below = (
  all_stay ts (flagged true t bs) t (flag_here t bs below.0),
  all_are_flagged ts (flagged true t bs) (subst (λ n. AreBelow n ts) (sym (length_flagged true t bs)) below.1),
)

-- those that aren't flagged any more
pub others_only : (ts : List ℕ) (bs : List Bool) (u : ℕ) → flag_at (all_flagged false ts bs) u ≡ true → (is_among u ts ≡ false) × (flag_at bs u ≡ true)
others_only [] bs u is = (refl, is)
others_only (t ∷ ts) bs u is =
    let others = others_only ts (flagged false t bs) u is in
    let other = flag_gone t u bs others.1 in
    (or_from (nat_eq u t) (is_among u ts) other others.0, sym (flag_other false t u bs other) ∙ others.1)

pub others_stay : (ts : List ℕ) (bs : List Bool) (u : ℕ) → is_among u ts ≡ false → flag_at bs u ≡ true → flag_at (all_flagged false ts bs) u ≡ true
others_stay [] bs u other is = is
others_stay (t ∷ ts) bs u other is =
    let both = or_parts (nat_eq u t) (is_among u ts) other in
    others_stay ts (flagged false t bs) u both.1 (flag_other false t u bs both.0 ∙ is)

-- ---- what covers them

pub covers_then : (most more less : List Bool) → Covers most more → Covers more less → Covers most less
covers_then most more less first second u is = first u (second u is)

pub covers_itself : (bs : List Bool) → Covers bs bs
covers_itself bs u is = is

pub covers_none : (more : List Bool) → Covers more []
covers_none more u is = absurd (cc is)

none_cleared : (bs : List Bool) (u : ℕ) → flag_at (cleared bs) u ≡ false
none_cleared [] u = refl
none_cleared (b ∷ bs) zero = refl
none_cleared (b ∷ bs) (suc u) = none_cleared bs u

pub covers_cleared : (more bs : List Bool) → Covers more (cleared bs)
covers_cleared more bs u is = absurd (cc (is, none_cleared bs u))

covers_one : (more : List Bool) (t : ℕ) (bs : List Bool) → flag_at more t ≡ true → Covers more bs → Covers more (flagged true t bs)
covers_one more t bs here covers u is = by (nat_eq u t) refl
  where
    by : (c : Bool) → nat_eq u t ≡ c → flag_at more u ≡ true
    by true same = ap (flag_at more) (eqb-true u t same) ∙ here
    by false other = covers u (sym (flag_other true t u bs other) ∙ is)

pub covers_all : (more : List Bool) (ts : List ℕ) (bs : List Bool) → AreFlagged more ts → Covers more bs → Covers more (all_flagged true ts bs)
covers_all more [] bs are covers = covers
covers_all more (t ∷ ts) bs are covers = covers_all more ts (flagged true t bs) are.1 (covers_one more t bs are.0 covers)

pub covers_others : (more : List Bool) (ts : List ℕ) (bs : List Bool) → Covers more bs → Covers more (all_flagged false ts bs)
covers_others more ts bs covers u is = covers u (others_only ts bs u is).1

-- one or the other

either_of : (bs cs : List Bool) (u : ℕ) → flag_at (either_flagged bs cs) u ≡ true → (flag_at bs u ≡ true) ⊎ (flag_at cs u ≡ true)
either_of [] cs u is = inr is
either_of (b ∷ bs) [] u is = inl is
either_of (true ∷ bs) (c ∷ cs) zero is = inl refl
either_of (false ∷ bs) (c ∷ cs) zero is = inr is
either_of (b ∷ bs) (c ∷ cs) (suc u) is = either_of bs cs u is

pub either_first : (bs cs : List Bool) → Covers (either_flagged bs cs) bs
either_first [] cs u is = absurd (cc is)
either_first (b ∷ bs) [] u is = is
either_first (b ∷ bs) (c ∷ cs) zero is = ap (λ v. v || c) is
either_first (b ∷ bs) (c ∷ cs) (suc u) is = either_first bs cs u is

pub either_second : (bs cs : List Bool) → Covers (either_flagged bs cs) cs
either_second [] cs u is = is
either_second (b ∷ bs) [] u is = absurd (cc is)
either_second (true ∷ bs) (c ∷ cs) zero is = refl
either_second (false ∷ bs) (c ∷ cs) zero is = is
either_second (b ∷ bs) (c ∷ cs) (suc u) is = either_second bs cs u is

pub covers_either : (more bs cs : List Bool) → Covers more bs → Covers more cs → Covers more (either_flagged bs cs)
covers_either more bs cs first second u is = ⊎_elim (λ e. first u e) (λ e. second u e) (either_of bs cs u is)

-- the ways of a choice, of which the second may only raise an exception

pub covers_way : (more : List Bool) (only : Bool) (ts : List ℕ) (bs cs : List Bool) → AreFlagged more ts → Covers more bs → Covers more cs
    → Covers more (either_way only ts bs cs)
covers_way more true ts bs cs are first second = covers_all more ts bs are first
covers_way more false ts bs cs are first second = covers_either more bs cs first second

pub way_first : (only : Bool) (ts : List ℕ) (bs cs : List Bool) → Covers (either_way only ts bs cs) bs
way_first true ts bs cs = more_flagged ts bs
way_first false ts bs cs = either_first bs cs

pub way_second : (only : Bool) (ts : List ℕ) (bs cs : List Bool) → (only ≡ true → Covers (all_flagged true ts bs) cs) → Covers (either_way only ts bs cs) cs
way_second true ts bs cs raises = raises refl
way_second false ts bs cs raises = either_second bs cs

-- ---- what follows

-- behind one of the temporaries that get words, which is saved as its flag says
pub follows_first : (t : ℕ) (ts : List ℕ) (after : List Bool)
    → Follows (flag_at after t) (t ∷ []) (all_flagged false (t ∷ ts) after) (all_flagged false ts after)
follows_first t ts after u kept = by (nat_eq u t) refl
  where
    by : (c : Bool) → nat_eq u t ≡ c → ((is_among u (t ∷ []) ≡ true) × (flag_at after t ≡ true))
        ⊎ ((is_among u (t ∷ []) ≡ false) × (flag_at (all_flagged false (t ∷ ts) after) u ≡ true))
    by true same = inl (ap (λ c. c || false) same, sym (ap (flag_at after) (eqb-true u t same)) ∙ (others_only ts after u kept).1)
    by false other =
        let others = others_only ts after u kept in
        inr (ap (λ c. c || false) other, others_stay (t ∷ ts) after u (or_from (nat_eq u t) (is_among u ts) other others.0) others.1)

-- with more before
pub follows_more : (keeps : Bool) (ts : List ℕ) (more before after : List Bool) → Covers more before → Follows keeps ts before after
    → Follows keeps ts more after
follows_more keeps ts more before after covers follows u kept = ⊎_elim (λ h. inl h) (λ h. inr (h.0, covers u h.1)) (follows u kept)

-- behind what gives one temporary a word, or none, whose flag is the first of these
pub follows_flags : (ts : List ℕ) (loads : List ℕ) (after flags rest : List Bool) → length ts ≤ 1 → flags ≡ flags_of after ts ++ rest
    → Follows (flag_at flags 0) ts (all_flagged true loads (all_flagged false ts after)) after
follows_flags [] loads after flags rest few are = λ u kept. inr (refl, more_flagged loads after u kept)
follows_flags (t ∷ []) loads after flags rest few are =
    let before = all_flagged false (t ∷ []) after in
    subst (λ keeps. Follows keeps (t ∷ []) (all_flagged true loads before) after) (sym (ap (λ bs. flag_at bs 0) are))
    (follows_more (flag_at after t) (t ∷ []) (all_flagged true loads before) before after (more_flagged loads before) (follows_first t [] after))
follows_flags (t ∷ t' ∷ ts) loads after flags rest few are = absurd (omega (arith, few))
