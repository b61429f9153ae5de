-- The structs and unions that the names of a program mean, when they alone are known.
use Rattle.std.proofs.Common.{◌≡◌, ℕ, ◌≤◌, Bool, true, false, List, [], ◌∷◌, ◌++◌, refl, sym, ap, ◌∙◌, arith, suc, length, true≢false}
use Rattle.std.proofs.lemmas.Bool.{or_right}
use Rattle.std.proofs.lemmas.List.{append-nil}
use Rattle.std.proofs.lemmas.Slice.Eq.{bytes_eq-Decides}
use Rattle.std.specs.Prelude.{None, Option, Some, bytes_eq, if◌then◌else◌, is_some, ◌||◌}
use Rattle.source_meaning.specs.Shapes.{Layout}
use Rattle.source_typing.specs.Extents.{is_named_before, layouts_onto, meant_first}
use Rattle.source_typing.specs.Tables.{Entry, Named, OfBuiltin, OfFunction, OfOther, OfTag, OfValue, Tables, Tag, as_tag, find, tag_in}
use Rattle.cyc_types.specs.FirstTags.{AlikeTags, if_tag, tags_alone, tags_first}
use Rattle.cyc_types.specs.Sameness.{HasTags}
use Rattle.cyc_types.specs.Tables.{tables_of}
use Rattle.cyc_types.specs.declared.tables.Tables as code
use Rattle.cyc_types.proofs.InLayouts.{layouts_known}

-- ---- by name

-- a first name
alone_as : (n : Named) (e : Entry) (b : Bool) (others ns : Tables) (x : List ℕ) → n.entry ≡ e → bytes_eq n.name x ≡ b
    → (b ≡ true → tag_in others x ≡ None) → (b ≡ false → tag_in ns x ≡ tag_in others x)
    → as_tag (if b then Some e else find ns x) ≡ tag_in (if_tag n e others) x
alone_as n (OfTag t) true others ns x h at p q =
    sym (ap (λ (b : Bool). as_tag (if b then Some n.entry else find others x)) at ∙ ap (λ e. as_tag (Some e)) h)
alone_as n (OfTag t) false others ns x h at p q = q refl ∙ sym (ap (λ (b : Bool). as_tag (if b then Some n.entry else find others x)) at)
alone_as n (OfValue w) true others ns x h at p q = sym (p refl)
alone_as n (OfValue w) false others ns x h at p q = q refl
alone_as n (OfFunction s) true others ns x h at p q = sym (p refl)
alone_as n (OfFunction s) false others ns x h at p q = q refl
alone_as n (OfBuiltin k) true others ns x h at p q = sym (p refl)
alone_as n (OfBuiltin k) false others ns x h at p q = q refl
alone_as n OfOther true others ns x h at p q = sym (p refl)
alone_as n OfOther false others ns x h at p q = q refl

-- another name than those before
other_name : (y x : List ℕ) (before : List (List ℕ)) (b : Bool) → is_named_before before y ≡ b → (is_named_before before x ≡ b → ⊥) → bytes_eq y x ≡ false
other_name y x before b h unlike = by (bytes_eq y x) refl
  where
    by : (c : Bool) → bytes_eq y x ≡ c → c ≡ false
    by true e = absurd (unlike (sym (ap (is_named_before before) ((bytes_eq-Decides y x).0 e)) ∙ h))
    by false e = refl

pub none_again : (g : Tables) (before : List (List ℕ)) (x : List ℕ) → is_named_before before x ≡ true → tag_in (tags_alone (meant_first before g)) x ≡ None
none_again [] before x h = refl
none_again (n ∷ ns) before x h =
    by (is_named_before before n.name) refl (none_again ns before x h)
    (none_again ns (n.name ∷ before) x (ap (λ b. bytes_eq n.name x || b) h ∙ or_right (bytes_eq n.name x) true refl))
  where
    by : (b : Bool) → is_named_before before n.name ≡ b
        → tag_in (tags_alone (meant_first before ns)) x ≡ None
        → tag_in (tags_alone (meant_first (n.name ∷ before) ns)) x ≡ None
        → tag_in (tags_alone (if b then meant_first before ns else n ∷ meant_first (n.name ∷ before) ns)) x ≡ None
    by true e same next = same
    by false e same next =
        let others = tags_alone (meant_first (n.name ∷ before) ns) in
        sym (alone_as n n.entry false others [] x refl (other_name n.name x before false e (λ f. true≢false (sym h ∙ f)))
        (λ f. absurd (true≢false (sym f))) (λ f. sym next))

pub found_first : (g : Tables) (before : List (List ℕ)) (x : List ℕ) → is_named_before before x ≡ false
    → tag_in g x ≡ tag_in (tags_alone (meant_first before g)) x
found_first [] before x h = refl
found_first (n ∷ ns) before x h =
    by (is_named_before before n.name) refl (found_first ns before x h)
    (λ f. found_first ns (n.name ∷ before) x (ap (λ c. c || is_named_before before x) f ∙ h))
  where
    by : (b : Bool) → is_named_before before n.name ≡ b
        → tag_in ns x ≡ tag_in (tags_alone (meant_first before ns)) x
        → (bytes_eq n.name x ≡ false → tag_in ns x ≡ tag_in (tags_alone (meant_first (n.name ∷ before) ns)) x)
        → tag_in (n ∷ ns) x ≡ tag_in (tags_alone (if b then meant_first before ns else n ∷ meant_first (n.name ∷ before) ns)) x
    by true e same next =
        ap (λ (b : Bool). as_tag (if b then Some n.entry else find ns x)) (other_name n.name x before true e (λ f. true≢false (sym f ∙ h))) ∙ same
    by false e same next =
        alone_as n n.entry (bytes_eq n.name x) (tags_alone (meant_first (n.name ∷ before) ns)) ns x refl refl
        (λ f. none_again ns (n.name ∷ before) x (ap (λ c. c || is_named_before before x) f)) next

-- ---- layouts

pub layouts_alone : (union : Bool) (so_far : List Layout) (g : Tables) → layouts_onto union so_far g ≡ layouts_onto union so_far (tags_alone g)
layouts_alone union so_far [] = refl
layouts_alone union so_far (n ∷ ns) = by n.entry refl (λ so_far. layouts_alone union so_far ns)
  where
    by : (e : Entry) → n.entry ≡ e → ((so_far : List Layout) → layouts_onto union so_far ns ≡ layouts_onto union so_far (tags_alone ns))
        → layouts_onto union so_far (record { name = n.name; entry = e } ∷ ns) ≡ layouts_onto union so_far (if_tag n e (tags_alone ns))
    by (OfTag t) h others =
        others (layouts_onto union so_far (record { name = n.name; entry = OfTag t } ∷ []))
        ∙ ap (λ e. layouts_onto union (layouts_onto union so_far (record { name = n.name; entry = e } ∷ [])) (tags_alone ns)) (sym h)
    by (OfValue w) h others = others so_far
    by (OfFunction s) h others = others so_far
    by (OfBuiltin k) h others = others so_far
    by OfOther h others = others so_far

-- ---- how many

alone_below : (g : Tables) → length (tags_alone g) ≤ length g
alone_below [] = omega arith
alone_below (n ∷ ns) = by n.entry (alone_below ns)
  where
    by : (e : Entry) → length (tags_alone ns) ≤ length ns → length (if_tag n e (tags_alone ns)) ≤ suc (length ns)
    by (OfTag t) others = omega (arith, others)
    by (OfValue w) others = omega (arith, others)
    by (OfFunction s) others = omega (arith, others)
    by (OfBuiltin k) others = omega (arith, others)
    by OfOther others = omega (arith, others)

meant_below : (before : List (List ℕ)) (g : Tables) → length (meant_first before g) ≤ length g
meant_below before [] = omega arith
meant_below before (n ∷ ns) = by (is_named_before before n.name) (meant_below before ns) (meant_below (n.name ∷ before) ns)
  where
    by : (b : Bool) → length (meant_first before ns) ≤ length ns → length (meant_first (n.name ∷ before) ns) ≤ length ns
        → length (if b then meant_first before ns else n ∷ meant_first (n.name ∷ before) ns) ≤ suc (length ns)
    by true same next = omega (arith, same)
    by false same next = omega (arith, next)

-- ---- all

-- the structs and unions that are known are those that the names mean
pub has_first : (tables : code.Tables) (g : Tables) → tables_of tables ≡ tags_first g → HasTags tables g
has_first tables g h = record {
  tags = λ x. found_first g [] x refl ∙ ap (λ t. tag_in t x) (sym h);
  layouts = λ union.
      layouts_alone union [] (meant_first [] g)
      ∙ ap (layouts_onto union []) (sym h)
      ∙ layouts_known tables.tags.entries tables.known union;
  depth =
      let all = alone_below (meant_first [] g) in
      let meant = meant_below [] g in
      let same : length (tables_of tables) ≡ length (tags_first g) = ap length h in
      omega (arith, all, meant, same);
}

-- ---- tables that differ in what is neither struct nor union

pub find_alike : (g h : Tables) (x : List ℕ) → AlikeTags g h → tag_in g x ≡ tag_in h x
find_alike [] [] x same = refl
find_alike [] (m ∷ ms) x same = absurd same
find_alike (n ∷ ns) [] x same = absurd same
find_alike (n ∷ ns) (m ∷ ms) x (named, (entry, others)) =
    by (bytes_eq n.name x) (find_alike ns ms x others) ∙ ap (λ y. as_tag (if bytes_eq y x then Some m.entry else find ms x)) named
  where
    by : (b : Bool) → tag_in ns x ≡ tag_in ms x → as_tag (if b then Some n.entry else find ns x) ≡ as_tag (if b then Some m.entry else find ms x)
    by true next = entry
    by false next = next

abbrev tagged : List ℕ → Option Tag → Tables
tagged y None = []
tagged y (Some t) = record { name = y; entry = OfTag t } ∷ []

layouts_entry : (union : Bool) (so_far : List Layout) (y : List ℕ) (e f : Entry) → as_tag (Some e) ≡ as_tag (Some f)
    → layouts_onto union so_far (record { name = y; entry = e } ∷ []) ≡ layouts_onto union so_far (record { name = y; entry = f } ∷ [])
layouts_entry union so_far y e f h =
    by e ∙ ap (λ o. layouts_onto union so_far (tagged y o)) h ∙ sym (by f)
  where
    by : (e : Entry) → layouts_onto union so_far (record { name = y; entry = e } ∷ []) ≡ layouts_onto union so_far (tagged y (as_tag (Some e)))
    by (OfTag t) = refl
    by (OfValue w) = refl
    by (OfFunction s) = refl
    by (OfBuiltin k) = refl
    by OfOther = refl

layouts_alike : (union : Bool) (so_far : List Layout) (before : List (List ℕ)) (g h : Tables) → AlikeTags g h
    → layouts_onto union so_far (meant_first before g) ≡ layouts_onto union so_far (meant_first before h)
layouts_alike union so_far before [] [] same = refl
layouts_alike union so_far before [] (m ∷ ms) same = absurd same
layouts_alike union so_far before (n ∷ ns) [] same = absurd same
layouts_alike union so_far before (n ∷ ns) (m ∷ ms) (named, (entry, others)) =
    by (is_named_before before n.name) (layouts_alike union so_far before ns ms others)
    (layouts_alike union (layouts_onto union so_far (n ∷ [])) (n.name ∷ before) ns ms others)
    ∙ ap (λ y. layouts_onto union so_far (if is_named_before before y then meant_first before ms
    else record { name = y; entry = m.entry } ∷ meant_first (y ∷ before) ms)) named
  where
    by : (b : Bool) → layouts_onto union so_far (meant_first before ns) ≡ layouts_onto union so_far (meant_first before ms)
        → layouts_onto union (layouts_onto union so_far (n ∷ [])) (meant_first (n.name ∷ before) ns)
        ≡ layouts_onto union (layouts_onto union so_far (n ∷ [])) (meant_first (n.name ∷ before) ms)
        → layouts_onto union so_far (if b then meant_first before ns else n ∷ meant_first (n.name ∷ before) ns)
        ≡ layouts_onto union so_far (if b then meant_first before ms else record { name = n.name; entry = m.entry } ∷ meant_first (n.name ∷ before) ms)
    by true same next = same
    by false same next =
        next
        ∙ ap (λ ls. layouts_onto union ls (meant_first (n.name ∷ before) ms)) (layouts_entry union so_far n.name n.entry m.entry entry)

length_alike : (g h : Tables) → AlikeTags g h → length g ≡ length h
length_alike [] [] same = refl
length_alike [] (m ∷ ms) same = absurd same
length_alike (n ∷ ns) [] same = absurd same
length_alike (n ∷ ns) (m ∷ ms) (named, (entry, others)) = ap suc (length_alike ns ms others)

-- what is known of the one is known of the other
pub has_alike : (tables : code.Tables) (g h : Tables) → AlikeTags g h → HasTags tables g → HasTags tables h
has_alike tables g h same has = record {
  tags = λ x. sym (find_alike g h x same) ∙ has.tags x;
  layouts = λ union. sym (layouts_alike union [] [] g h same) ∙ has.layouts union;
  depth = let as_many = length_alike g h same in let below = has.depth in omega (arith, as_many, below);
}

-- ---- one more name

join_tag : (n : Named) (e : Entry) (g h : Tables) → if_tag n e (g ++ h) ≡ if_tag n e g ++ h
join_tag n (OfTag t) g h = refl
join_tag n (OfValue w) g h = refl
join_tag n (OfFunction s) g h = refl
join_tag n (OfBuiltin k) g h = refl
join_tag n OfOther g h = refl

-- it counts where it is new
abbrev if_new : Bool → Named → Tables
if_new true n = []
if_new false n = if_tag n n.entry []

more_tags : (before : List (List ℕ)) (g : Tables) (n : Named)
    → tags_alone (meant_first before (g ++ n ∷ [])) ≡ tags_alone (meant_first before g) ++ if_new (is_named_before before n.name || is_some (find g n.name)) n
more_tags before [] n = by (is_named_before before n.name)
  where
    by : (b : Bool) → tags_alone (if b then [] else n ∷ []) ≡ if_new (b || false) n
    by true = refl
    by false = refl
more_tags before (m ∷ ms) n =
    by (is_named_before before m.name) (bytes_eq m.name n.name) refl refl (more_tags before ms n) (more_tags (m.name ∷ before) ms n)
  where
    either : (c b : Bool) (o : Option Entry) → ((c || b) || is_some o) ≡ (b || is_some (if c then Some m.entry else o))
    either true true o = refl
    either true false o = refl
    either false b o = refl

    by : (b c : Bool) → is_named_before before m.name ≡ b → bytes_eq m.name n.name ≡ c
        → tags_alone (meant_first before (ms ++ n ∷ []))
        ≡ tags_alone (meant_first before ms) ++ if_new (is_named_before before n.name || is_some (find ms n.name)) n
        → tags_alone (meant_first (m.name ∷ before) (ms ++ n ∷ []))
        ≡ tags_alone (meant_first (m.name ∷ before) ms) ++ if_new ((bytes_eq m.name n.name || is_named_before before n.name) || is_some (find ms n.name)) n
        → tags_alone (if b then meant_first before (ms ++ n ∷ []) else m ∷ meant_first (m.name ∷ before) (ms ++ n ∷ []))
        ≡ tags_alone (if b then meant_first before ms else m ∷ meant_first (m.name ∷ before) ms)
        ++ if_new (is_named_before before n.name || is_some (if c then Some m.entry else find ms n.name)) n
    by true true e at same next =
        let named = sym (ap (is_named_before before) ((bytes_eq-Decides m.name n.name).0 at)) ∙ e in
        same
        ∙ ap (λ b. tags_alone (meant_first before ms) ++ if_new (b || is_some (find ms n.name)) n) named
        ∙ sym (ap (λ b. tags_alone (meant_first before ms) ++ if_new (b || true) n) named)
    by true false e at same next = same
    by false c e at same next =
        ap (if_tag m m.entry) next
        ∙ join_tag m m.entry (tags_alone (meant_first (m.name ∷ before) ms))
        (if_new ((bytes_eq m.name n.name || is_named_before before n.name) || is_some (find ms n.name)) n)
        ∙ ap (λ b. if_tag m m.entry (tags_alone (meant_first (m.name ∷ before) ms)) ++ if_new b n)
        (ap (λ c. (c || is_named_before before n.name) || is_some (find ms n.name)) at ∙ either c (is_named_before before n.name) (find ms n.name))

-- a name that is new
pub first_new : (g : Tables) (n : Named) → is_some (find g n.name) ≡ false → tags_first (g ++ n ∷ []) ≡ tags_first g ++ if_tag n n.entry []
first_new g n h = more_tags [] g n ∙ ap (λ b. tags_first g ++ if_new b n) h

-- one that is there
pub first_again : (g : Tables) (n : Named) → is_some (find g n.name) ≡ true → tags_first (g ++ n ∷ []) ≡ tags_first g
first_again g n h = more_tags [] g n ∙ ap (λ b. tags_first g ++ if_new b n) h ∙ append-nil (tags_first g)
