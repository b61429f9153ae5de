-- What is known of structs and unions in order is what the rules say of them.
use Rattle.std.proofs.Common.{◌≡◌, ℕ, ◌<◌, ◌≤◌, ◌+◌, Bool, true, false, Bor, List, [], ◌∷◌, ◌++◌, length, refl, sym, ap, subst, ◌∙◌, arith, suc, zero, cond}
use Rattle.std.proofs.Common.{true≢false, length-append}
use Rattle.std.proofs.lemmas.Bool.{and_parts}
use Rattle.std.proofs.lemmas.List.{append_assoc, append-nil, length-map, map_push}
use Rattle.std.proofs.lemmas.Slice.Eq.{bytes_eq-Decides}
use Rattle.std.specs.List.{list_all}
use Rattle.std.specs.Prelude.{Err, None, Ok, OnErr, OnOk, Option, Result, Some, bytes_eq, is_none, is_some, nat_eq, option_map, unwrap_or, ◌&&◌}
use Rattle.source_meaning.specs.Sizes.{Extent}
use Rattle.source_typing.proofs.Converting.{bool_is}
use Rattle.source_typing.proofs.Parts.{each_as}
use Rattle.source_typing.specs.Regions.{Region}
use Rattle.source_typing.specs.Tables.{OfTag, Part, as_tag, begins, copies, each_part, find, has_beginning, if_known, is_copyable, parts_in, parts_of_tag}
use Rattle.source_typing.specs.Tables.{tag_in}
use Rattle.source_typing.specs.Types.{Char, Fat, Handle, Int, Key, Null, StaticType, Struct, Thin, Union, Unique, Unsigned, Void, same_bool}
use Rattle.cyc_types.specs.InOrder.{are_known, is_known}
use Rattle.cyc_types.specs.Known.{Entry, entries_of, flag_if, found, has_declared, is_declared, named_by, quick_begins, quick_copies}
use Rattle.cyc_types.specs.Measures.{quick_tag, same_measure, stored}
use Rattle.cyc_types.specs.Tags.{member_of, members_of, tag_of}
use Rattle.cyc_types.specs.declared.tag.Member.{Member}
use Rattle.cyc_types.specs.declared.tag.Known.{Known}
use Rattle.source_typing.specs.Tables as rules

-- ---- spellings

pub same_bytes : (x y : List ℕ) → bytes_eq x y ≡ bytes_eq y x
same_bytes [] [] = refl
same_bytes [] (y ∷ ys) = refl
same_bytes (x ∷ xs) [] = refl
same_bytes (x ∷ xs) (y ∷ ys) = let e : nat_eq x y ≡ nat_eq y x = grind arith in ap (λ b. b && bytes_eq xs ys) e ∙ ap (λ b. nat_eq y x && b) (same_bytes xs ys)

-- ---- the rules' look-ups

tag_step : (e : Entry) (es : List Entry) (x : List ℕ) (b : Bool) → bytes_eq e.0.now x ≡ b
    → as_tag (find (entries_of es) x) ≡ option_map (λ k. tag_of x k.tag) (found es x)
    → as_tag (cond b (Some (OfTag (tag_of e.0.now e.1.tag))) (find (entries_of es) x)) ≡ option_map (λ k. tag_of x k.tag) (cond b (Some e.1) (found es x))
tag_step e es x true h ih = ap (λ n. Some (tag_of n e.1.tag)) ((bytes_eq-Decides e.0.now x).0 h)
tag_step e es x false h ih = ih

pub tag_found : (es : List Entry) (x : List ℕ) → tag_in (entries_of es) x ≡ option_map (λ k. tag_of x k.tag) (found es x)
tag_found [] x = refl
tag_found (e ∷ es) x =
    tag_step e es x (bytes_eq e.0.now x) refl (tag_found es x)
    ∙ ap (λ b. option_map (λ k. tag_of x k.tag) (cond b (Some e.1) (found es x))) (same_bytes e.0.now x)

pub parts_known : (es : List Entry) (x : List ℕ) (k : Known) → found es x ≡ Some k → parts_in (entries_of es) x ≡ members_of k.tag.members.items
parts_known es x k h = ap parts_of_tag (tag_found es x ∙ ap (option_map (λ k. tag_of x k.tag)) h)

pub no_parts : (es : List Entry) (x : List ℕ) → found es x ≡ None → parts_in (entries_of es) x ≡ []
no_parts es x h = ap parts_of_tag (tag_found es x ∙ ap (option_map (λ k. tag_of x k.tag)) h)

pub is_nothing : (k : Option Known) → is_none k ≡ true → k ≡ None
is_nothing None h = refl
is_nothing (Some k) h = absurd (true≢false (sym h))

-- ---- where a tag stands

pub record Split (es : List Entry) (x : List ℕ) (k : Known) : Type 0 where
  pub before : List Entry
  pub after : List Entry
  pub at : Bor (List ℕ)
  pub is : es ≡ before ++ (at, k) ∷ after
  pub spelling : at.now ≡ x

split_step : (e : Entry) (es : List Entry) (x : List ℕ) (k : Known) (b : Bool) → bytes_eq x e.0.now ≡ b
    → cond b (Some e.1) (found es x) ≡ Some k → (found es x ≡ Some k → Split es x k) → Split (e ∷ es) x k
split_step e es x k true b h ih =
    record { before = []; after = es; at = e.0; is = ap (λ v. (e.0, v) ∷ es) (ap (λ o. unwrap_or o e.1) h); spelling = sym ((bytes_eq-Decides x e.0.now).0 b) }
split_step e es x k false b h ih =
    let s = ih h in
    record { before = e ∷ s.before; after = s.after; at = s.at; is = ap (λ l. e ∷ l) s.is; spelling = s.spelling }

pub split : (es : List Entry) (x : List ℕ) (k : Known) → found es x ≡ Some k → Split es x k
split [] x k h = absurd (true≢false (ap is_none h))
split (e ∷ es) x k h = split_step e es x k (bytes_eq x e.0.now) refl h (split es x k)

pub known_at : (acc before after : List Entry) (e : Entry) → are_known acc (before ++ e ∷ after) ≡ true → is_known (acc ++ before) e.0.now e.1 ≡ true
known_at acc [] after e h =
    subst (λ l. is_known l e.0.now e.1 ≡ true) (sym (append-nil acc)) ((and_parts (is_known acc e.0.now e.1) (are_known (acc ++ e ∷ []) after) h).0)
known_at acc (b ∷ bs) after e h =
    subst (λ l. is_known l e.0.now e.1 ≡ true) (append_assoc acc (b ∷ []) bs)
    (known_at (acc ++ b ∷ []) bs after e ((and_parts (is_known acc b.0.now b.1) (are_known (acc ++ b ∷ []) (bs ++ e ∷ after)) h).1))

here_step : (b : Bool) (first k : Known) (others rest : Option Known) → is_none (cond b (Some first) others) ≡ true
    → (is_none others ≡ true → rest ≡ Some k) → cond b (Some first) rest ≡ Some k
here_step true first k others rest h ih = absurd (true≢false (sym h))
here_step false first k others rest h ih = ih h

pub found_here : (before after : List Entry) (at : Bor (List ℕ)) (k : Known) → is_none (found before at.now) ≡ true
    → found (before ++ (at, k) ∷ after) at.now ≡ Some k
found_here [] after at k h = ap (λ b. cond b (Some k) (found after at.now)) ((bytes_eq-Decides at.now at.now).1 refl)
found_here (b ∷ bs) after at k h =
    here_step (bytes_eq at.now b.0.now) b.1 k (found bs at.now) (found (bs ++ (at, k) ∷ after) at.now) h (found_here bs after at k)

-- what is known of a tag, one by one
pub record Facts (before : List Entry) (x : List ℕ) (k : Known) : Type 0 where
  pub new : is_none (found before x) ≡ true
  pub declared : each_part (is_declared before) (members_of k.tag.members.items) ≡ true
  pub copied : same_bool k.copyable (each_part (quick_copies before) (members_of k.tag.members.items)) ≡ true
  pub begun : same_bool k.begins (each_part (quick_begins before) (members_of k.tag.members.items)) ≡ true
  pub counted : same_measure (stored k) (quick_tag before k.tag) ≡ true

pub facts : (before : List Entry) (x : List ℕ) (k : Known) → is_known before x k ≡ true → Facts before x k
facts before x k h =
    let ms = members_of k.tag.members.items in
    let first = is_none (found before x) in
    let second = each_part (is_declared before) ms in
    let third = same_bool k.copyable (each_part (quick_copies before) ms) in
    let fourth = same_bool k.begins (each_part (quick_begins before) ms) in
    let four = and_parts (first && second && third && fourth) (same_measure (stored k) (quick_tag before k.tag)) h in
    let three = and_parts (first && second && third) fourth four.0 in
    let two = and_parts (first && second) third three.0 in
    let one = and_parts first second two.0 in
    record { new = one.0; declared = one.1; copied = two.1; begun = three.1; counted = four.1 }

-- ---- what is known of a tag is what the rules find in it

part_same : (f g holds : StaticType → Bool) (o : Option StaticType) → if_known holds o ≡ true
    → ((t : StaticType) → holds t ≡ true → f t ≡ g t) → if_known f o ≡ if_known g o
part_same f g holds None h same = refl
part_same f g holds (Some t) h same = same t h

each_same : (f g holds : StaticType → Bool) (ps : List Part) → each_part holds ps ≡ true
    → ((t : StaticType) → holds t ≡ true → f t ≡ g t) → each_part f ps ≡ each_part g ps
each_same f g holds [] h same = refl
each_same f g holds (p ∷ ps) h same =
    ap (λ b. b && each_part f ps) (part_same f g holds p.type ((and_parts (if_known holds p.type) (each_part holds ps) h).0) same)
    ∙ ap (λ b. if_known g p.type && b) (each_same f g holds ps ((and_parts (if_known holds p.type) (each_part holds ps) h).1) same)

abbrev pub is_struct : StaticType → Bool
is_struct (Struct tag rs) = true
is_struct t = false

-- a rule that looks into structs to a depth, what is known in its place, and why it is the same
pub record Looks (deep : ℕ → rules.Tables → StaticType → Bool) (quick : List Entry → StaticType → Bool) (flag : Known → Bool) : Type 0 where
  pub into : (n : ℕ) (g : rules.Tables) (tag : List ℕ) (rs : List Region) → deep (suc n) g (Struct tag rs) ≡ each_part (deep n g) (parts_in g tag)
  pub nowhere : (g : rules.Tables) (tag : List ℕ) (rs : List Region) → deep zero g (Struct tag rs) ≡ true
  pub else : (n : ℕ) (g : rules.Tables) (es : List Entry) (t : StaticType) → is_struct t ≡ false → deep n g t ≡ quick es t
  pub by_flag : (es : List Entry) (tag : List ℕ) (rs : List Region) → quick es (Struct tag rs) ≡ flag_if flag (found es tag)
  pub known : (before : List Entry) (x : List ℕ) (k : Known) → is_known before x k ≡ true → flag k ≡ each_part (quick before) (members_of k.tag.members.items)

module _ (deep : ℕ → rules.Tables → StaticType → Bool) (quick : List Entry → StaticType → Bool) (flag : Known → Bool) (looks : Looks deep quick flag) where
  -- what the rule finds to so many structs, in one that has fewer before it
  abbrev ToDepth : ℕ → Type 0
  ToDepth n = (all before after : List Entry) (at : Bor (List ℕ)) (k : Known) → are_known [] all ≡ true → all ≡ before ++ (at, k) ∷ after
      → length before < n → (rs : List Region) → deep n (entries_of all) (Struct at.now rs) ≡ flag k

  member_struct : (n : ℕ) → ToDepth n → (all before after : List Entry) (e : Entry) → are_known [] all ≡ true → all ≡ before ++ e ∷ after
      → length before < suc n → (tag : List ℕ) (rs : List Region) (k : Option Known) → found before tag ≡ k → is_some k ≡ true
      → deep n (entries_of all) (Struct tag rs) ≡ quick before (Struct tag rs)
  member_struct n ih all before after e known is fewer tag rs None at h = absurd (true≢false (sym h))
  member_struct n ih all before after e known is fewer tag rs (Some k) at h =
      let s = split before tag k at in
      let whole : all ≡ s.before ++ (s.at, k) ∷ (s.after ++ e ∷ after) =
      is ∙ ap (λ l. l ++ e ∷ after) s.is ∙ append_assoc s.before ((s.at, k) ∷ s.after) (e ∷ after) in
      let counted : length before ≡ length s.before + length ((s.at, k) ∷ s.after) = ap length s.is ∙ length-append s.before ((s.at, k) ∷ s.after) in
      let less : length s.before < n = omega (arith, counted, fewer) in
      subst (λ x. deep n (entries_of all) (Struct x rs) ≡ flag k) s.spelling
      (ih all s.before (s.after ++ e ∷ after) s.at k known whole less rs)
      ∙ sym (looks.by_flag before tag rs ∙ ap (flag_if flag) at)

  member_same : (n : ℕ) → ToDepth n → (all before after : List Entry) (e : Entry) → are_known [] all ≡ true → all ≡ before ++ e ∷ after
      → length before < suc n → (t : StaticType) → is_declared before t ≡ true → deep n (entries_of all) t ≡ quick before t
  member_same n ih all before after e known is fewer (Struct tag rs) h = member_struct n ih all before after e known is fewer tag rs (found before tag) refl h
  member_same n ih all before after e known is fewer Int h = looks.else n (entries_of all) before Int refl
  member_same n ih all before after e known is fewer Unsigned h = looks.else n (entries_of all) before Unsigned refl
  member_same n ih all before after e known is fewer Char h = looks.else n (entries_of all) before Char refl
  member_same n ih all before after e known is fewer Void h = looks.else n (entries_of all) before Void refl
  member_same n ih all before after e known is fewer Null h = looks.else n (entries_of all) before Null refl
  member_same n ih all before after e known is fewer (Thin m r t) h = looks.else n (entries_of all) before (Thin m r t) refl
  member_same n ih all before after e known is fewer (Fat r t) h = looks.else n (entries_of all) before (Fat r t) refl
  member_same n ih all before after e known is fewer (Unique m t) h = looks.else n (entries_of all) before (Unique m t) refl
  member_same n ih all before after e known is fewer (Handle r) h = looks.else n (entries_of all) before (Handle r) refl
  member_same n ih all before after e known is fewer (Key r) h = looks.else n (entries_of all) before (Key r) refl
  member_same n ih all before after e known is fewer (Union tag rs) h = looks.else n (entries_of all) before (Union tag rs) refl

  to_depth : (n : ℕ) → ToDepth n
  to_depth zero all before after at k known is fewer rs = absurd (omega (arith, fewer))
  to_depth (suc n) all before after at k known is fewer rs =
      let members = members_of k.tag.members.items in
      let own : is_known before at.now k ≡ true = known_at [] before after (at, k) (subst (λ l. are_known [] l ≡ true) is known) in
      let of = facts before at.now k own in
      let here : found all at.now ≡ Some k = ap (λ l. found l at.now) is ∙ found_here before after at k of.new in
      looks.into n (entries_of all) at.now rs
      ∙ ap (each_part (deep n (entries_of all))) (parts_known all at.now k here)
      ∙ each_same (deep n (entries_of all)) (quick before) (is_declared before) members of.declared
      (member_same n (to_depth n) all before after (at, k) known is fewer)
      ∙ sym (looks.known before at.now k own)

  unknown : (n : ℕ) (all : List Entry) (tag : List ℕ) (rs : List Region) → found all tag ≡ None → deep n (entries_of all) (Struct tag rs) ≡ true
  unknown zero all tag rs at = looks.nowhere (entries_of all) tag rs
  unknown (suc n) all tag rs at = looks.into n (entries_of all) tag rs ∙ ap (each_part (deep n (entries_of all))) (no_parts all tag at)

  by_found : (n : ℕ) (all : List Entry) → length all ≤ n → are_known [] all ≡ true → (tag : List ℕ) (rs : List Region) (k : Option Known) → found all tag ≡ k
      → deep n (entries_of all) (Struct tag rs) ≡ flag_if flag k
  by_found n all many known tag rs None at = unknown n all tag rs at
  by_found n all many known tag rs (Some k) at =
      let s = split all tag k at in
      let counted : length all ≡ length s.before + length ((s.at, k) ∷ s.after) = ap length s.is ∙ length-append s.before ((s.at, k) ∷ s.after) in
      let less : length s.before < n = omega (arith, counted, many) in
      subst (λ x. deep n (entries_of all) (Struct x rs) ≡ flag k) s.spelling
      (to_depth n all s.before s.after s.at k known s.is less rs)

  -- to at least so many structs as there are
  pub by_tables : (n : ℕ) (all : List Entry) → length all ≤ n → are_known [] all ≡ true → (t : StaticType) → deep n (entries_of all) t ≡ quick all t
  by_tables n all many known (Struct tag rs) = by_found n all many known tag rs (found all tag) refl ∙ sym (looks.by_flag all tag rs)
  by_tables n all many known Int = looks.else n (entries_of all) all Int refl
  by_tables n all many known Unsigned = looks.else n (entries_of all) all Unsigned refl
  by_tables n all many known Char = looks.else n (entries_of all) all Char refl
  by_tables n all many known Void = looks.else n (entries_of all) all Void refl
  by_tables n all many known Null = looks.else n (entries_of all) all Null refl
  by_tables n all many known (Thin m r t) = looks.else n (entries_of all) all (Thin m r t) refl
  by_tables n all many known (Fat r t) = looks.else n (entries_of all) all (Fat r t) refl
  by_tables n all many known (Unique m t) = looks.else n (entries_of all) all (Unique m t) refl
  by_tables n all many known (Handle r) = looks.else n (entries_of all) all (Handle r) refl
  by_tables n all many known (Key r) = looks.else n (entries_of all) all (Key r) refl
  by_tables n all many known (Union tag rs) = looks.else n (entries_of all) all (Union tag rs) refl

-- ---- what is copied, and what has a beginning

copies_looks_else : (n : ℕ) (g : rules.Tables) (es : List Entry) (t : StaticType) → is_struct t ≡ false → copies n g t ≡ quick_copies es t
copies_looks_else n g es Int h = refl
copies_looks_else n g es Unsigned h = refl
copies_looks_else n g es Char h = refl
copies_looks_else n g es Void h = refl
copies_looks_else n g es Null h = refl
copies_looks_else n g es (Thin m r t) h = refl
copies_looks_else n g es (Fat r t) h = refl
copies_looks_else n g es (Unique m t) h = refl
copies_looks_else n g es (Handle r) h = refl
copies_looks_else n g es (Key r) h = refl
copies_looks_else n g es (Union tag rs) h = refl
copies_looks_else n g es (Struct tag rs) h = absurd (true≢false h)

pub copies_looks : Looks copies quick_copies (λ k. k.copyable)
copies_looks = record {
  into = λ n g tag rs. refl;
  nowhere = λ g tag rs. refl;
  else = copies_looks_else;
  by_flag = λ es tag rs. refl;
  known = λ before x k h. bool_is k.copyable (each_part (quick_copies before) (members_of k.tag.members.items)) (facts before x k h).copied;
}

begins_looks_else : (n : ℕ) (g : rules.Tables) (es : List Entry) (t : StaticType) → is_struct t ≡ false → begins n g t ≡ quick_begins es t
begins_looks_else n g es Int h = refl
begins_looks_else n g es Unsigned h = refl
begins_looks_else n g es Char h = refl
begins_looks_else n g es Void h = refl
begins_looks_else n g es Null h = refl
begins_looks_else n g es (Thin m r t) h = refl
begins_looks_else n g es (Fat r t) h = refl
begins_looks_else n g es (Unique m t) h = refl
begins_looks_else n g es (Handle r) h = refl
begins_looks_else n g es (Key r) h = refl
begins_looks_else n g es (Union tag rs) h = refl
begins_looks_else n g es (Struct tag rs) h = absurd (true≢false h)

pub begins_looks : Looks begins quick_begins (λ k. k.begins)
begins_looks = record {
  into = λ n g tag rs. refl;
  nowhere = λ g tag rs. refl;
  else = begins_looks_else;
  by_flag = λ es tag rs. refl;
  known = λ before x k h. bool_is k.begins (each_part (quick_begins before) (members_of k.tag.members.items)) (facts before x k h).begun;
}

all_named : (all : List Entry) → length all ≤ length (entries_of all)
all_named all = omega (arith, length-map all named_by)

pub copies_known : (all : List Entry) → are_known [] all ≡ true → (t : StaticType) → is_copyable (entries_of all) t ≡ quick_copies all t
copies_known all known t =
    by_tables copies quick_copies (λ k. k.copyable) copies_looks (length (entries_of all)) all (all_named all) known t

pub begins_known : (all : List Entry) → are_known [] all ≡ true → (t : StaticType) → has_beginning (entries_of all) t ≡ quick_begins all t
begins_known all known t =
    by_tables begins quick_begins (λ k. k.begins) begins_looks (length (entries_of all)) all (all_named all) known t

-- ---- one more tag

pub some_found : (es : List Entry) (tag : List ℕ) → is_some (tag_in (entries_of es) tag) ≡ is_some (found es tag)
some_found es tag = ap is_some (tag_found es tag) ∙ by (found es tag)
  where
    by : (k : Option Known) → is_some (option_map (λ k. tag_of tag k.tag) k) ≡ is_some k
    by None = refl
    by (Some k) = refl

pub declared_same : (es : List Entry) (t : StaticType) → has_declared (entries_of es) t ≡ is_declared es t
declared_same es (Struct tag rs) = some_found es tag
declared_same es (Union tag rs) = some_found es tag
declared_same es Int = refl
declared_same es Unsigned = refl
declared_same es Char = refl
declared_same es Void = refl
declared_same es Null = refl
declared_same es (Thin m r t) = refl
declared_same es (Fat r t) = refl
declared_same es (Unique m t) = refl
declared_same es (Handle r) = refl
declared_same es (Key r) = refl

pub each_member : (holds : StaticType → Bool) (ms : List Member) → list_all (λ m. if_known holds (member_of m).type) ms ≡ each_part holds (members_of ms)
each_member holds [] = refl
each_member holds (m ∷ ms) = ap (λ b. if_known holds (member_of m).type && b) (each_member holds ms)

pub all_declared : (es : List Entry) (ms : List Member)
    → list_all (λ m. if_known (is_declared es) (member_of m).type) ms ≡ each_part (has_declared (entries_of es)) (members_of ms)
all_declared es ms = each_member (is_declared es) ms ∙ sym (each_as (has_declared (entries_of es)) (is_declared es) (members_of ms) (declared_same es))

all_known_more : (acc es : List Entry) (e : Entry) → are_known acc es ≡ true → is_known (acc ++ es) e.0.now e.1 ≡ true → are_known acc (es ++ e ∷ []) ≡ true
all_known_more acc [] e h own = ap (λ b. b && true) (subst (λ l. is_known l e.0.now e.1 ≡ true) (append-nil acc) own)
all_known_more acc (f ∷ es) e h own =
    ap (λ b. b && are_known (acc ++ f ∷ []) (es ++ e ∷ [])) ((and_parts (is_known acc f.0.now f.1) (are_known (acc ++ f ∷ []) es) h).0)
    ∙ all_known_more (acc ++ f ∷ []) es e ((and_parts (is_known acc f.0.now f.1) (are_known (acc ++ f ∷ []) es) h).1)
    (subst (λ l. is_known l e.0.now e.1 ≡ true) (sym (append_assoc acc (f ∷ []) es)) own)

same_bool_self : (b : Bool) → same_bool b b ≡ true
same_bool_self true = refl
same_bool_self false = refl

same_measure_self : (o : Option Extent) → same_measure o o ≡ true
same_measure_self None = refl
same_measure_self (Some e) = let a : nat_eq e.size e.size ≡ true = grind arith in let b : nat_eq e.align e.align ≡ true = grind arith in rw (a, b) refl

pub none_found : (es : List Entry) (x : List ℕ) → tag_in (entries_of es) x ≡ None → found es x ≡ None
none_found es x h = by (found es x) (sym (tag_found es x) ∙ h)
  where
    by : (k : Option Known) → option_map (λ k. tag_of x k.tag) k ≡ None → k ≡ None
    by None h = refl
    by (Some k) h = absurd (true≢false (ap is_some h))

-- a new tag, whose members are declared, with what is found of them
pub known_more : (es : List Entry) (at : Bor (List ℕ)) (k : Known) → are_known [] es ≡ true → tag_in (entries_of es) at.now ≡ None
    → each_part (has_declared (entries_of es)) (members_of k.tag.members.items) ≡ true
    → k.copyable ≡ each_part (quick_copies es) (members_of k.tag.members.items)
    → k.begins ≡ each_part (quick_begins es) (members_of k.tag.members.items) → stored k ≡ quick_tag es k.tag → are_known [] (es ++ (at, k) ∷ []) ≡ true
known_more es at k known new declared copyable begins extent =
    let ms = members_of k.tag.members.items in
    let first : is_none (found es at.now) ≡ true = ap is_none (none_found es at.now new) in
    let second : each_part (is_declared es) ms ≡ true = sym (each_as (has_declared (entries_of es)) (is_declared es) ms (declared_same es)) ∙ declared in
    let third : same_bool k.copyable (each_part (quick_copies es) ms) ≡ true = ap (same_bool k.copyable) (sym copyable) ∙ same_bool_self k.copyable in
    let fourth : same_bool k.begins (each_part (quick_begins es) ms) ≡ true = ap (same_bool k.begins) (sym begins) ∙ same_bool_self k.begins in
    let fifth : same_measure (stored k) (quick_tag es k.tag) ≡ true = ap (same_measure (stored k)) (sym extent) ∙ same_measure_self (stored k) in
    all_known_more [] es (at, k) known (all_true _ _ _ _ _ first second third fourth fifth)
  where
    all_true : (a b c d e : Bool) → a ≡ true → b ≡ true → c ≡ true → d ≡ true → e ≡ true → (a && b && c && d && e) ≡ true
    all_true a b c d e ha hb hc hd he = rw (ha, hb, hc, hd, he) refl

pub known_either : {A E : Type 0} (r : Result A E) (old new : List Entry) (e : Entry) → OnOk r (new ≡ old ++ e ∷ []) → OnErr r (new ≡ old)
    → are_known [] old ≡ true → are_known [] (old ++ e ∷ []) ≡ true → are_known [] new ≡ true
known_either (Ok a) old new e ok err first second = subst (λ l. are_known [] l ≡ true) (sym ok) second
known_either (Err a) old new e ok err first second = subst (λ l. are_known [] l ≡ true) (sym err) first

pub entries_more : (es : List Entry) (e : Entry) → entries_of (es ++ e ∷ []) ≡ entries_of es ++ named_by e ∷ []
entries_more es e = map_push named_by es e
