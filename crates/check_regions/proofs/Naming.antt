-- Region names in order, as the rules list them: what is found of a name, with one name more, and with the first ones alone.
use Rattle.std.specs.Prelude.{bytes_eq, drop, is_some, length, map, option_map, reverse, take, ◌-◌, if◌then◌else◌}
use Rattle.std.proofs.Common.{◌≡◌, ℕ, zero, suc, Bool, true, false, Bor, Option, Some, None, List, [], ◌∷◌, ◌++◌, cond, refl, sym, ◌∙◌, ap}
use Rattle.std.proofs.lemmas.List.{drop_at, length-drop, length-map, length-reverse, map-append, reverse-append, take-append-drop}
use Rattle.std.proofs.lemmas.Slice.Eq.{bytes_eq-Decides}
use Rattle.cyc_tree.specs.Tree.{Name}
use Rattle.cyc_types.specs.Regions.{region_of}
use Rattle.cyc_types.specs.declared.region.RegionId.{RegionId}
use Rattle.source_typing.specs.Declarations.{name_added}
use Rattle.source_typing.specs.Regions.{Region}
use Rattle.source_typing.specs.Written.{RegionNamed, find_region}
use Rattle.check_regions.specs.Names.{AreDistinct, Entry, at, named, names_of}
use Rattle.cyc_types.proofs.InOrder.{same_bytes}

-- ---- what is found

-- what is found, or else this
abbrev pub or_this : Option Region → Option Region → Option Region
or_this (Some r) o = Some r
or_this None o = o

pub found_before : (ns : List RegionNamed) (n : RegionNamed) (x : List ℕ)
    → find_region (ns ++ n ∷ []) x ≡ or_this (find_region ns x) (if bytes_eq n.name x then Some n.id else None)
found_before [] n x = refl
found_before (m ∷ ns) n x = by (bytes_eq m.name x) (found_before ns n x)
  where
    by : (t : Bool) → find_region (ns ++ n ∷ []) x ≡ or_this (find_region ns x) (if bytes_eq n.name x then Some n.id else None)
        → (if t then Some m.id else find_region (ns ++ n ∷ []) x)
        ≡ or_this (if t then Some m.id else find_region ns x) (if bytes_eq n.name x then Some n.id else None)
    by true e = refl
    by false e = e

first_last : (e : Entry) (es : List Entry) → names_of (e ∷ es) ≡ names_of es ++ named e ∷ []
first_last e es = reverse-append (named e ∷ []) (map named es)

pub found : (es : List Entry) (x : List ℕ) → AreDistinct es → find_region (names_of es) x ≡ option_map region_of (at es x)
found [] x d = refl
found (e ∷ es) x d =
    ap (λ ns. find_region ns x) (first_last e es) ∙ found_before (names_of es) (named e) x
    ∙ ap (λ o. or_this o (if bytes_eq e.0.now x then Some (region_of e.1) else None)) (found es x d.1)
    ∙ ap (λ t. or_this (option_map region_of (at es x)) (if t then Some (region_of e.1) else None)) (same_bytes e.0.now x)
    ∙ by (bytes_eq x e.0.now) refl
  where
    rest : Option RegionId → Bool → Option Region
    rest o t = or_this (option_map region_of o) (if t then Some (region_of e.1) else None)

    by : (t : Bool) → bytes_eq x e.0.now ≡ t
        → or_this (option_map region_of (at es x)) (if t then Some (region_of e.1) else None) ≡ option_map region_of (cond t (Some e.1) (at es x))
    by true h =
        let q : e.0.now ≡ x = sym ((bytes_eq-Decides x e.0.now).0 h) in
        let none : at es x ≡ None = ap (λ y. at es y) (sym q) ∙ d.0 in
        ap (λ o. or_this (option_map region_of o) (Some (region_of e.1))) none
    by false h = alone (at es x)
      where
        alone : (o : Option RegionId) → or_this (option_map region_of o) None ≡ option_map region_of o
        alone (Some r) = refl
        alone None = refl

-- ---- one name more

pub one_more : (es : List Entry) (e : Entry) → names_of (es ++ e ∷ []) ≡ named e ∷ names_of es
one_more es e = ap reverse (map-append named es (e ∷ [])) ∙ reverse-append (map named es) (named e ∷ [])

not_first : (x : List ℕ) (e : Entry) (es : List Entry) → at (e ∷ es) x ≡ None → (bytes_eq x e.0.now ≡ false) × (at es x ≡ None)
not_first x e es h = by (bytes_eq x e.0.now) refl h
  where
    by : (t : Bool) → bytes_eq x e.0.now ≡ t → cond t (Some e.1) (at es x) ≡ None → (bytes_eq x e.0.now ≡ false) × (at es x ≡ None)
    by true p q = absurd cc
    by false p q = (p, q)

none_more : (x : List ℕ) (es : List Entry) (e : Entry) → at es x ≡ None → bytes_eq x e.0.now ≡ false → at (es ++ e ∷ []) x ≡ None
none_more x [] e h k = ap (λ t. cond t (Some e.1) None) k
none_more x (f ∷ es) e h k =
    let p = not_first x f es h in
    ap (λ t. cond t (Some f.1) (at (es ++ e ∷ []) x)) p.0 ∙ none_more x es e p.1 k

pub distinct_more : (es : List Entry) (e : Entry) → AreDistinct es → at es e.0.now ≡ None → AreDistinct (es ++ e ∷ [])
distinct_more [] e d h = (refl, tt)
distinct_more (f ∷ es) e d h =
    let p = not_first e.0.now f es h in
    (none_more f.0.now es e d.0 (same_bytes f.0.now e.0.now ∙ p.0), distinct_more es e d.1 p.1)

-- ---- the first ones alone

none_taken : (x : List ℕ) (n : ℕ) (es : List Entry) → at es x ≡ None → at (take n es) x ≡ None
none_taken x zero es h = refl
none_taken x (suc n) [] h = refl
none_taken x (suc n) (e ∷ es) h =
    let p = not_first x e es h in
    ap (λ t. cond t (Some e.1) (at (take n es) x)) p.0 ∙ none_taken x n es p.1

pub distinct_taken : (n : ℕ) (es : List Entry) → AreDistinct es → AreDistinct (take n es)
distinct_taken zero es d = tt
distinct_taken (suc n) [] d = tt
distinct_taken (suc n) (e ∷ es) d = (none_taken e.0.now n es d.0, distinct_taken n es d.1)

pub so_many_names : (es : List Entry) → length (names_of es) ≡ length es
so_many_names es = length-reverse (map named es) ∙ length-map es named

pub first_names : (n : ℕ) (es : List Entry) → names_of (take n es) ≡ drop (length (names_of es) - n) (names_of es)
first_names n es =
    let a : List Entry = take n es in
    let b : List Entry = drop n es in
    let parts : names_of es ≡ names_of b ++ names_of a =
    ap names_of (sym (take-append-drop n es)) ∙ ap reverse (map-append named a b) ∙ reverse-append (map named a) (map named b) in
    let k : ℕ = length (names_of es) - n in
    let long : length (names_of b) ≡ k = so_many_names b ∙ length-drop n es ∙ ap (λ m. m - n) (sym (so_many_names es)) in
    sym (drop_at (names_of b) (names_of a) k long) ∙ ap (λ ns. drop k ns) (sym parts)

-- ---- as the code sees them

module _ (es : List Entry) (d : AreDistinct es) (ns : List RegionNamed) (v : names_of es ≡ ns) where
  pub found_now : (x : List ℕ) (o : Option RegionId) → o ≡ at es x → option_map region_of o ≡ find_region ns x
  found_now x o e = ap (λ o. option_map region_of o) e ∙ sym (found es x d) ∙ ap (λ l. find_region l x) v

  pub not_there : (x : List ℕ) (o : Option RegionId) → option_map region_of o ≡ find_region ns x → is_some o ≡ false → at es x ≡ None
  not_there x o e h = by o (at es x) (e ∙ ap (λ l. find_region l x) (sym v) ∙ found es x d) h
    where
      by : (o p : Option RegionId) → option_map region_of o ≡ option_map region_of p → is_some o ≡ false → p ≡ None
      by o None e h = refl
      by None (Some p) e h = absurd cc
      by (Some o) (Some p) e h = absurd cc

  pub added : (x : Bor (List ℕ)) (r : RegionId) (new : List Entry) → at es x.now ≡ None → new ≡ es ++ (x, r) ∷ []
      → (n : Name) → n.text ≡ x.now → names_of new ≡ name_added (is_some (find_region ns n.text)) n (region_of r) ns
  added x r new none e n t =
      let nowhere : is_some (find_region ns n.text) ≡ false =
      ap (λ y. is_some (find_region ns y)) t ∙ ap is_some (sym (found_now x.now (at es x.now) refl) ∙ ap (λ o. option_map region_of o) none) in
      ap names_of e ∙ one_more es (x, r) ∙ ap (λ l. named (x, r) ∷ l) v
      ∙ ap (λ y. record { name = y; id = region_of r } ∷ ns) (sym t) ∙ ap (λ b. name_added b n (region_of r) ns) (sym nowhere)
