-- What is known where an item is judged, and how its tags go on.
use Rattle.std.proofs.Common.{◌≡◌, ℕ, ◌≤◌, Bool, true, false, List, [], ◌∷◌, ◌++◌, refl, sym, ap, subst, ◌∙◌, arith, suc, true≢false}
use Rattle.std.proofs.lemmas.Bool.Decides.{nat_tests}
use Rattle.std.proofs.lemmas.Slice.Eq.{bytes_eq-Decides}
use Rattle.std.specs.Prelude.{None, Option, Some, bytes_eq, if◌then◌else◌, codes, is_some, nat_lt}
use Rattle.cyc_tree.specs.Tree.{Item, Program}
use Rattle.cyc_types.proofs.FirstTags.{found_first, has_first}
use Rattle.cyc_types.proofs.LaterTags.{later_bytes, same_bytes}
use Rattle.cyc_types.specs.FirstTags.{AreEmpty, AreOwn, IsOwn}
use Rattle.cyc_types.proofs.WrittenTags.{parts_declared}
use Rattle.cyc_types.specs.Known.{has_declared}
use Rattle.cyc_types.specs.Tables.{tables_of}
use Rattle.source_meaning.specs.Places.{or_else}
use Rattle.source_typing.proofs.Entries.{entries_more, find_both, judged_name}
use Rattle.source_typing.specs.Declarations.{tag_earlier}
use Rattle.source_typing.specs.Programs.{Judged, builtins, entries, first_entry, first_from, judged_tag, name_of}
use Rattle.source_typing.specs.Tables.{Entry, Named, OfBuiltin, OfFunction, OfOther, OfTag, OfValue, Tables, Tag, as_tag, each_part, find, parts_of_tag, tag_in}
use Rattle.source_typing.specs.Tags.{tag_scope}
use Rattle.check_types.specs.Naming.{has_tag_name, tag_named}
use Rattle.check_types.specs.Tagged.{IsNamed, tag_name_of}
use Rattle.check_types.specs.declared.tag_names.TagNames.{TagNames}
use Rattle.check_types.specs.declared.tagged.TagName.{TagName}
use Rattle.check_structs.specs.FirstKnown.{AreNames, AreSince, bare_tags, first_tags}
use Rattle.check_structs.specs.Tags.{AreAllJudged, AreBefore, AreJudged, IsBefore, IsFound, JudgedTo, StandsAt, found_parts, known_name, or_first}
use Rattle.check_structs.specs.declared.structure.JudgedTag.{JudgedTag}
use Rattle.check_structs.specs.declared.tags.JudgedTags.{JudgedTags}
use Rattle.cyc_tree.specs.Tree as tree

-- ---- tags that stand before

before_own : (i : ℕ) (g : Tables) → AreBefore i g → AreOwn g
before_own i [] before = tt
before_own i (n ∷ ns) (own, others) = (by n.entry own, before_own i ns others)
  where
    by : (e : Entry) → IsBefore i n.name e → IsOwn n.name e
    by (OfTag t) own = own.0
    by (OfValue w) own = tt
    by (OfFunction s) own = tt
    by (OfBuiltin k) own = tt
    by OfOther own = tt

-- of one that is found
abbrev if_before : ℕ → Option Entry → Type 0
if_before i (Some (OfTag t)) = (nat_lt t.order i ≡ true)
if_before i o = Unit {0}

found_before : (i : ℕ) (g : Tables) (x : List ℕ) → AreBefore i g → if_before i (find g x)
found_before i [] x before = tt
found_before i (n ∷ ns) x (own, others) = by (bytes_eq n.name x) (found_before i ns x others)
  where
    of : (e : Entry) → IsBefore i n.name e → if_before i (Some e)
    of (OfTag t) own = own.1
    of (OfValue w) own = tt
    of (OfFunction s) own = tt
    of (OfBuiltin k) own = tt
    of OfOther own = tt

    by : (b : Bool) → if_before i (find ns x) → if_before i (if b then Some n.entry else find ns x)
    by true later = of n.entry own
    by false later = later

-- ---- tags that stand later

pub later_own : (g : Tables) (j : ℕ) (items : List Item) → AreOwn (first_from g j items)
later_own g j [] = tt
later_own g j (tree.StructItem s ∷ items) = (refl, later_own g (suc j) items)
later_own g j (tree.UnionItem s ∷ items) = (refl, later_own g (suc j) items)
later_own g j (tree.GlobalItem x ∷ items) = (tt, later_own g (suc j) items)
later_own g j (tree.FunctionItem f ∷ items) = (tt, later_own g (suc j) items)

pub later_empty : (g : Tables) (j : ℕ) (items : List Item) → AreEmpty (first_from g j items)
later_empty g j [] = tt
later_empty g j (tree.StructItem s ∷ items) = (refl, later_empty g (suc j) items)
later_empty g j (tree.UnionItem s ∷ items) = (refl, later_empty g (suc j) items)
later_empty g j (tree.GlobalItem x ∷ items) = (tt, later_empty g (suc j) items)
later_empty g j (tree.FunctionItem f ∷ items) = (tt, later_empty g (suc j) items)

abbrev if_later : ℕ → Option Entry → Type 0
if_later i (Some (OfTag t)) = i ≤ t.order
if_later i o = Unit {0}

first_later : (i j : ℕ) (g : Tables) (item : Item) → i ≤ j → if_later i (Some (first_entry g j item))
first_later i j g (tree.StructItem s) h = h
first_later i j g (tree.UnionItem s) h = h
first_later i j g (tree.GlobalItem x) h = tt
first_later i j g (tree.FunctionItem f) h = tt

found_later : (i j : ℕ) (g : Tables) (items : List Item) (x : List ℕ) → i ≤ j → if_later i (find (first_from g j items) x)
found_later i j g [] x h = tt
found_later i j g (item ∷ items) x h =
    let more : i ≤ suc j = omega (arith, h) in
    by (bytes_eq (name_of item).text x) (found_later i (suc j) g items x more)
  where
    by : (b : Bool) → if_later i (find (first_from g (suc j) items) x)
        → if_later i (if b then Some (first_entry g j item) else find (first_from g (suc j) items) x)
    by true later = first_later i j g item h
    by false later = later

-- ---- what is known

or_first_some : (e : Entry) (first : TagName) → or_first (tag_name_of (Some e)) first ≡ tag_name_of (Some e)
or_first_some (OfTag t) first = by t.sound
  where
    by : (b : Bool) → or_first (tag_name_of (Some (OfTag (record t { sound = b })))) first ≡ tag_name_of (Some (OfTag (record t { sound = b })))
    by true = refl
    by false = refl
or_first_some (OfValue w) first = refl
or_first_some (OfFunction s) first = refl
or_first_some (OfBuiltin k) first = refl
or_first_some OfOther first = refl

named_both : (o later : Option Entry) (n m : TagName) → n ≡ tag_name_of o → (o ≡ None → tag_name_of later ≡ m) → tag_name_of (or_else o later) ≡ or_first n m
named_both None later n m is others = others refl ∙ sym (ap (λ n. or_first n m) is)
named_both (Some e) later n m is others = sym (ap (λ n. or_first n m) is ∙ or_first_some e m)

earlier_both : (i : ℕ) (o later : Option Entry) → if_before i o → if_later i later → is_some (as_tag (or_else o later)) ≡ true
    → tag_earlier i (as_tag (or_else o later)) ≡ is_some (as_tag o)
earlier_both i (Some (OfTag t)) later before after h = before
earlier_both i (Some (OfValue w)) later before after h = absurd cc
earlier_both i (Some (OfFunction s)) later before after h = absurd cc
earlier_both i (Some (OfBuiltin k)) later before after h = absurd cc
earlier_both i (Some OfOther) later before after h = absurd cc
earlier_both i None (Some (OfTag t)) before after h = grind (arith, nat_tests, after)
earlier_both i None None before after h = absurd cc
earlier_both i None (Some (OfValue w)) before after h = absurd cc
earlier_both i None (Some (OfFunction s)) before after h = absurd cc
earlier_both i None (Some (OfBuiltin k)) before after h = absurd cc
earlier_both i None (Some OfOther) before after h = absurd cc

module _ (all : Program) (i : ℕ) (items : Program) (done : JudgedTags) (first : TagNames)
    (to : JudgedTo all i items done) (names : AreNames first (first_tags all)) where
  abbrev before : Tables
  before = builtins (entries to.js)

  abbrev later : Tables
  later = first_from (bare_tags all) i items

  left_of : (x : List ℕ) → find before x ≡ None → find (first_tags all) x ≡ find later x
  left_of x h = to.left x (ap is_some h)

  are_before : AreBefore i before
  are_before = (tt, (tt, to.before))

  known_at : (x : List ℕ) → IsNamed (before ++ later) x (known_name done.names first x)
  known_at x = record {
    is =
        ap tag_name_of (find_both before later x)
        ∙ named_both (find before x) (find later x) (tag_named done.names x) (tag_named first x) (to.are.names x)
        (λ h. ap tag_name_of (sym (left_of x h)) ∙ (names x).is);
  }

  earlier_at : (x : List ℕ) → is_some (tag_in (before ++ later) x) ≡ true
      → tag_earlier i (tag_in (before ++ later) x) ≡ is_some (tag_in (tables_of done.tables) x)
  earlier_at x h =
      let both = find_both before later x in
      let same : i ≤ i = omega arith in
      ap (λ o. tag_earlier i (as_tag o)) both
      ∙ earlier_both i (find before x) (find later x) (found_before i before x are_before)
      (found_later i i (bare_tags all) items x same) (sym (ap (λ o. is_some (as_tag o)) both) ∙ h)
      ∙ ap is_some (found_first before [] x refl ∙ ap (λ t. tag_in t x) (sym to.are.tables))

  pub stands_at : StandsAt done.names first (tables_of done.tables) i (before ++ later)
  stands_at = record {
    names = known_at;
    earlier = earlier_at;
    bytes = λ s ps.
        later_bytes before later s ps (before_own i before are_before) (later_empty (bare_tags all) i items) (later_own (bare_tags all) i items)
        ∙ same_bytes before (tables_of done.tables) s ps ((has_first done.tables before to.are.tables).layouts);
  }

  -- a name that isn't known is no struct's or union's
  pub new_at : (x : List ℕ) → has_tag_name done.names x ≡ false → tag_in (tables_of done.tables) x ≡ None
  new_at x h =
      ap (λ t. tag_in t x) to.are.tables ∙ sym (found_first before [] x refl) ∙ by (find before x) (sym (to.are.known x) ∙ h)
    where
      by : (o : Option Entry) → is_some o ≡ false → as_tag o ≡ None
      by None h = refl
      by (Some e) h = absurd (true≢false h)

-- ---- one item more

before_more : (i : ℕ) (g : Tables) (n : Named) → AreBefore i g → IsBefore (suc i) n.name n.entry → AreBefore (suc i) (g ++ n ∷ [])
before_more i [] n before own = (own, tt)
before_more i (m ∷ ms) n (of, others) own = (by m.entry of, before_more i ms n others own)
  where
    by : (e : Entry) → IsBefore i m.name e → IsBefore (suc i) m.name e
    by (OfTag t) (own, below) = (own, grind (arith, nat_tests, below))
    by (OfValue w) own = tt
    by (OfFunction s) own = tt
    by (OfBuiltin k) own = tt
    by OfOther own = tt

below_next : (i : ℕ) → nat_lt i (suc i) ≡ true
below_next i = grind (arith, nat_tests)

judged_before : (g : Tables) (i : ℕ) (item : Item)
    → let j = judged_tag g i item in IsBefore (suc i) j.entry.name j.entry.entry
judged_before g i (tree.StructItem s) = (refl, below_next i)
judged_before g i (tree.UnionItem s) = (refl, below_next i)
judged_before g i (tree.GlobalItem x) = tt
judged_before g i (tree.FunctionItem f) = tt

module _ (all : Program) (i : ℕ) (item : Item) (items : Program) (done next : JudgedTags)
    (to : JudgedTo all i (item ∷ items) done) where
  -- what the rules find of it
  abbrev pub found_here : Judged
  found_here = judged_tag (builtins (entries to.js ++ first_from (bare_tags all) i (item ∷ items))) i item

  left_here : (x : List ℕ) (n : Named) → n.name ≡ (name_of item).text → is_some (find (builtins (entries to.js) ++ n ∷ []) x) ≡ false
      → find (first_tags all) x ≡ find (first_from (bare_tags all) (suc i) items) x
  left_here x n same h =
      by (find (builtins (entries to.js)) x) (bytes_eq n.name x) refl refl
      (sym (ap is_some (find_both (builtins (entries to.js)) (n ∷ []) x)) ∙ h)
    where
      rest : Option Entry
      rest = find (first_from (bare_tags all) (suc i) items) x

      by : (o : Option Entry) (b : Bool) → find (builtins (entries to.js)) x ≡ o → bytes_eq n.name x ≡ b
          → is_some (or_else o (if b then Some n.entry else None)) ≡ false → find (first_tags all) x ≡ rest
      by (Some e) b found at h = absurd (true≢false h)
      by None true found at h = absurd (true≢false h)
      by None false found at h =
          to.left x (ap is_some found)
          ∙ ap (λ (b : Bool). if b then Some (first_entry (bare_tags all) i item) else rest) (ap (λ y. bytes_eq y x) (sym same) ∙ at)

  pub judged_next : AreJudged (to.js ++ found_here ∷ []) next → JudgedTo all (suc i) items next
  judged_next are =
      let more = entries_more to.js found_here in
      let g = builtins (entries to.js ++ first_from (bare_tags all) i (item ∷ items)) in
      record {
        js = to.js ++ found_here ∷ [];
        are = are;
        goes = to.goes;
        left = λ x h. left_here x found_here.entry (judged_name g i item) (sym (ap (λ es. is_some (find (builtins es) x)) more) ∙ h);
        before = subst (AreBefore (suc i)) (sym more) (before_more i (entries to.js) found_here.entry to.before (judged_before g i item));
      }

-- ---- the first and the last

pub judged_first : (all : Program) (done : JudgedTags) → AreJudged [] done → JudgedTo all 0 all done
judged_first all done are = record {
  js = [];
  are = are;
  goes = refl;
  left = λ x h. by x (bytes_eq (codes "getchar") x) (bytes_eq (codes "putchar") x) h;
  before = tt;
}
  where
    by : (x : List ℕ) (b c : Bool) → is_some (if b then Some (OfBuiltin 0) else if c then Some (OfBuiltin 1) else None) ≡ false
        → (if b then Some (OfBuiltin 0) else if c then Some (OfBuiltin 1) else find (first_from (bare_tags all) 0 all) x)
        ≡ find (first_from (bare_tags all) 0 all) x
    by x true c h = absurd (true≢false h)
    by x false true h = absurd (true≢false h)
    by x false false h = refl

pub judged_last : (all : Program) (i : ℕ) (done : JudgedTags) → JudgedTo all i [] done → AreAllJudged all done
judged_last all i done to = record { are = subst (λ js. AreJudged js done) to.goes to.are }

-- what the functions are that every program has
pub known_builtins : (names : TagNames) → ((others : Tables) → AreSince names others (builtins others)) → (x : List ℕ)
    → has_tag_name names x ≡ is_some (find (builtins []) x)
known_builtins names since x =
    by (has_tag_name names x) (bytes_eq (codes "getchar") x) (bytes_eq (codes "putchar") x) (bytes_eq x x) (tag_named names x) (since [] x)
    (since (record { name = x; entry = other } ∷ []) x) ((bytes_eq-Decides x x).1 refl)
  where
    other : Entry
    other = OfTag (record { text = x; is_union = false; order = 0; regions = 0; parts = []; sound = true })

    by : (has b c d : Bool) (n : TagName)
        → (if has then n else tag_name_of None) ≡ tag_name_of (if b then Some (OfBuiltin 0) else if c then Some (OfBuiltin 1) else None)
        → (if has then n else tag_name_of (if d then Some other else None))
        ≡ tag_name_of (if b then Some (OfBuiltin 0) else if c then Some (OfBuiltin 1) else if d then Some other else None)
        → d ≡ true → has ≡ is_some (if b then Some (OfBuiltin 0) else if c then Some (OfBuiltin 1) else None)
    by true true c d n p q e = refl
    by true false true d n p q e = refl
    by true false false true n p q e = absurd cc
    by true false false false n p q e = absurd (true≢false (sym e))
    by false true c d n p q e = absurd cc
    by false false true d n p q e = absurd cc
    by false false false d n p q e = refl

-- ---- what is found is declared

absurd_other : {t : Tag} → OfOther ≡ OfTag t → ⊥
absurd_other h = absurd cc

pub declared_at : (g here : Tables) (i : ℕ) (item : Item) (found : Option JudgedTag)
    → ((x : List ℕ) → is_some (tag_in g x) ≡ true → tag_earlier i (tag_in g x) ≡ is_some (tag_in here x))
    → IsFound (judged_tag g i item) found → each_part (has_declared here) (found_parts found) ≡ true
declared_at g here i item None earlier is = refl
declared_at g here i (tree.StructItem s) (Some found) earlier is =
    ap (λ e. each_part (has_declared here) (parts_of_tag (as_tag (Some e)))) (sym is.0) ∙ parts_declared (tag_scope g i s) here false s.members earlier
declared_at g here i (tree.UnionItem s) (Some found) earlier is =
    ap (λ e. each_part (has_declared here) (parts_of_tag (as_tag (Some e)))) (sym is.0) ∙ parts_declared (tag_scope g i s) here true s.members earlier
declared_at g here i (tree.GlobalItem x) (Some found) earlier is = absurd (absurd_other is.0)
declared_at g here i (tree.FunctionItem f) (Some found) earlier is = absurd (absurd_other is.0)
