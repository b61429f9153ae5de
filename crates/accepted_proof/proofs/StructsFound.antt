-- The structs and unions of a program in which no tag has a fault: its tables have each of them under its name, and nothing else under it.
use Rattle.std.proofs.Common.{◌≡◌, ◌≤◌, ℕ, suc, Bool, true, false, Some, List, [], ◌∷◌, refl, sym, subst, ap, ◌∙◌, arith}
use Rattle.std.specs.Prelude.{◌+◌, ◌++◌, ◌||◌, bytes_eq, codes, if◌then◌else◌, length, map, not}
use Rattle.std.proofs.lemmas.Bool.{false≢true, not-true}
use Rattle.std.proofs.lemmas.Slice.Eq.{bytes_eq-Decides}
use Rattle.cyc_tree.specs.Operands.{HasOperands}
use Rattle.cyc_tree.specs.Tree as tree
use Rattle.cyc_tree.specs.Tree.{Item, Program}
use Rattle.source_lowering.specs.Lowerable.{AreStructs}
use Rattle.source_meaning.specs.Programs.{layout_of, unions_of, world_of}
use Rattle.source_meaning.specs.Shapes.{Layout, has_tag, part_of, parts_of}
use Rattle.source_meaning.proofs.Layouts.{no_parts}
use Rattle.type_proof.specs.Structs.{StructsJudged, UnionsJudged}
use Rattle.source_typing.specs.Extents.{layouts_of, layouts_onto}
use Rattle.source_typing.specs.Faults.{name_rule, test}
use Rattle.source_typing.specs.Functions.{head_of}
use Rattle.source_typing.specs.Globals.{global_entry}
use Rattle.source_typing.specs.Programs.{Judged, all_tag_faults, bare_from, builtins, entries, entries_with, is_seen, judged_tags}
use Rattle.source_typing.specs.Programs.{second_names, tables_of}
use Rattle.source_typing.specs.Scope.{at_item}
use Rattle.source_typing.specs.Tables.{Entry, Named, OfBuiltin, OfFunction, OfTag, Tables, Tag, find}
use Rattle.source_typing.proofs.Inversion.{none_of_both, test_is}
use Rattle.accepted_proof.proofs.AlignedTables.{layouts_same, tables_aligned}
use Rattle.accepted_proof.proofs.good.Functions.{KindsKnown}
use Rattle.accepted_proof.proofs.kinds.Programs.{tables_kinds}
use Rattle.accepted_proof.proofs.Named.{AreNamed, TagKnown, builtins_known}
use Rattle.accepted_proof.proofs.TagOrder.{bare_known, first_alike}
use Rattle.accepted_proof.proofs.Tags.{behind_builtins, first_tables, judged_list, tags_are}
use Rattle.accepted_proof.proofs.lowered.LaidStructs.{AllReached}
use Rattle.accepted_proof.proofs.lowered.LaidTags.{IsHere, bare_there, here_after, here_behind, here_function, here_global, own_struct, own_union}
use Rattle.accepted_proof.proofs.lowered.StructSizes.{bare_once, builtins_meant, named_once}
use Rattle.accepted_proof.proofs.lowered.Types.{TagThere, TagsThere}
use Rattle.accepted_proof.proofs.TagNames.{Unseen, in_tables}
use Rattle.accepted_proof.proofs.TagOutcomes.{HaveValues, Outcome, all_steps, unions_onto}

-- tags that are found among the items
record TagHere (x : List ℕ) (t : Tag) (is : List Item) : Type 0 where
  text : t.text ≡ x
  here : (found : List Layout) → IsHere t.is_union is found x

-- the tag of a struct or a union that has the name
own_tag : (kind : Bool) (s : tree.Structure) (n : Named) (is : List Item) (x : List ℕ) (t : Tag) → TagKnown kind s n → Some n.entry ≡ Some (OfTag t)
    → bytes_eq s.tag.text x ≡ true → ((found : List Layout) → IsHere kind is found x) → TagHere x t is
own_tag kind s n is x t k e q h =
    let z : OfTag k.tag ≡ OfTag t = sym (ap (λ (m : Named). m.entry) k.is) ∙ entry_is n.entry e in
    let same : k.tag ≡ t = cc in
    record {
      text = sym (ap (λ (z : Tag). z.text) same) ∙ (k.text ∙ (bytes_eq-Decides s.tag.text x).0 q);
      here = λ found. subst (λ (b : Bool). IsHere b is found x) (sym (sym (ap (λ (z : Tag). z.is_union) same) ∙ k.kind)) (h found);
    }
  where
    entry_is : (d : Entry) → Some d ≡ Some (OfTag t) → d ≡ OfTag t
    entry_is d e = cc

tag_here : (hs : Tables) (i : ℕ) (js : List Judged) (is : List Item) (x : List ℕ) (t : Tag) → AreNamed js is
    → find (entries_with false hs i js is) x ≡ Some (OfTag t) → TagHere x t is
tag_here hs i [] is x t n e = absurd cc
tag_here hs i (j ∷ js) [] x t n e = absurd cc
tag_here hs i (j ∷ js) (tree.StructItem s ∷ is) x t n e = by (bytes_eq s.tag.text x) refl (λ q. tag_here hs (suc i) js is x t n.1 q) e
  where
    by : (c : Bool) → bytes_eq s.tag.text x ≡ c → (find (entries_with false hs (suc i) js is) x ≡ Some (OfTag t) → TagHere x t is)
        → (if c then Some j.entry.entry else find (entries_with false hs (suc i) js is) x) ≡ Some (OfTag t) → TagHere x t (tree.StructItem s ∷ is)
    by true q others p = own_tag false s j.entry (tree.StructItem s ∷ is) x t n.0 p q (λ found. own_struct s is found x q)
    by false q others p =
        let r : TagHere x t is = others p in
        record { text = r.text; here = λ found. here_after t.is_union s is found x (r.here (layout_of s ∷ found)) }
tag_here hs i (j ∷ js) (tree.UnionItem s ∷ is) x t n e = by (bytes_eq s.tag.text x) refl (λ q. tag_here hs (suc i) js is x t n.1 q) e
  where
    by : (c : Bool) → bytes_eq s.tag.text x ≡ c → (find (entries_with false hs (suc i) js is) x ≡ Some (OfTag t) → TagHere x t is)
        → (if c then Some j.entry.entry else find (entries_with false hs (suc i) js is) x) ≡ Some (OfTag t) → TagHere x t (tree.UnionItem s ∷ is)
    by true q others p = own_tag true s j.entry (tree.UnionItem s ∷ is) x t n.0 p q (λ found. own_union s is found x q)
    by false q others p =
        let r : TagHere x t is = others p in record { text = r.text; here = λ found. here_behind t.is_union s is found x (r.here found) }
tag_here hs i (j ∷ js) (tree.GlobalItem y ∷ is) x t n e =
    let r : TagHere x t is = by (bytes_eq y.name.text x) (λ q. tag_here hs (suc i) js is x t n.1 q) e in
    record { text = r.text; here = λ found. here_global t.is_union y is found x (r.here found) }
  where
    by : (c : Bool) → (find (entries_with false hs (suc i) js is) x ≡ Some (OfTag t) → TagHere x t is)
        → (if c then Some (global_entry (at_item false hs i) y) else find (entries_with false hs (suc i) js is) x) ≡ Some (OfTag t) → TagHere x t is
    by true others p = absurd cc
    by false others p = others p
tag_here hs i (j ∷ js) (tree.FunctionItem f ∷ is) x t n e =
    let r : TagHere x t is = by (bytes_eq f.name.text x) (λ q. tag_here hs (suc i) js is x t n.1 q) e in
    record { text = r.text; here = λ found. here_function t.is_union f is found x (r.here found) }
  where
    by : (c : Bool) → (find (entries_with false hs (suc i) js is) x ≡ Some (OfTag t) → TagHere x t is)
        → (if c then Some (OfFunction (head_of false hs f).signature) else find (entries_with false hs (suc i) js is) x) ≡ Some (OfTag t) → TagHere x t is
    by true others p = absurd cc
    by false others p = others p

-- what is here is one of the program's
in_world : (p : Program) (kind : Bool) (x : List ℕ) → IsHere kind p [] x → TagThere (world_of p) kind x
in_world p false x h = h
in_world p true x h = h

entries_count : (hs : Tables) (i : ℕ) (js : List Judged) (is : List Item) → AreNamed js is → length (entries_with false hs i js is) ≡ length is
entries_count hs i [] [] n = refl
entries_count hs i [] (x ∷ is) n = absurd n
entries_count hs i (j ∷ js) [] n = absurd n
entries_count hs i (j ∷ js) (x ∷ is) n = ap (λ c. suc c) (entries_count hs (suc i) js is n.1)

-- the two functions that every program has are seen from the start
builtins_unseen : (g : Tables) → Unseen (builtins g) (codes "getchar" ∷ codes "putchar" ∷ []) g
builtins_unseen g x e = by (bytes_eq (codes "getchar") x) (bytes_eq (codes "putchar") x) e
  where
    by : (a c : Bool) → a || (c || false) ≡ false → (if a then Some (OfBuiltin 0) else (if c then Some (OfBuiltin 1) else find g x)) ≡ find g x
    by true c p = absurd cc
    by false true p = absurd cc
    by false false p = refl

-- what a program's tables have under the name of a struct or a union, and what lowering wants of them
pub record StructsFound (p : Program) : Type 0 where
  pub named : AreNamed (judged_tags p) p
  pub structs : StructsJudged (world_of p) (tables_of false p)
  pub unions : UnionsJudged (world_of p) (tables_of false p)
  pub there : TagsThere (world_of p) (tables_of false p)
  pub texts : (x : List ℕ) (t : Tag) → find (tables_of false p) x ≡ Some (OfTag t) → t.text ≡ x
  pub tags : (x : List ℕ) → has_tag (world_of p).structs x ≡ true → (t : Tag) × (find (tables_of false p) x ≡ Some (OfTag t))
  pub kinds : KindsKnown (tables_of false p)
  -- each struct is made of earlier ones, has a member and few bytes, and each union has scalar members
  pub lowered : AreStructs (world_of p).unions (world_of p).structs × AllReached (world_of p) (world_of p).structs
  pub values : HaveValues (world_of p).unions × AllReached (world_of p) (world_of p).unions
  -- the rules lay out these structs, and these unions in another order
  pub layouts : layouts_of false (tables_of false p) ≡ (world_of p).structs
  pub union_layouts : (tag : List ℕ) → parts_of (layouts_of true (tables_of false p)) tag ≡ parts_of (world_of p).unions tag

-- what is no tag isn't that of a struct
pub not_made : (p : Program) (x : List ℕ) (e : Entry) → StructsFound p → find (tables_of false p) x ≡ Some e → ((t : Tag) → e ≡ OfTag t → ⊥)
    → has_tag (world_of p).structs x ≡ false
not_made p x e h q n = by (has_tag (world_of p).structs x) (h.tags x)
  where
    by : (c : Bool) → (c ≡ true → (t : Tag) × (find (tables_of false p) x ≡ Some (OfTag t))) → c ≡ false
    by false k = refl
    by true k = let z = k refl in let y : Some e ≡ Some (OfTag z.0) = sym q ∙ z.1 in absurd (n z.0 cc)

-- ---- unions in another order

-- an item that is no union
later : (y : tree.Name) (is : List Item) (found : List Layout) (seen : List (List ℕ)) (x : List ℕ)
    → test (not (is_seen seen y.text)) name_rule y.at ++ second_names (y.text ∷ seen) is ≡ [] → (has_tag found x ≡ true → is_seen seen x ≡ true)
    → (second_names (y.text ∷ seen) is ≡ [] → (has_tag found x ≡ true → is_seen (y.text ∷ seen) x ≡ true)
    → parts_of (unions_onto is found) x ≡ (if has_tag found x then parts_of found x else parts_of (unions_of is) x))
    → parts_of (unions_onto is found) x ≡ (if has_tag found x then parts_of found x else parts_of (unions_of is) x)
later y is found seen x p h k =
    k (none_of_both (test (not (is_seen seen y.text)) name_rule y.at) (second_names (y.text ∷ seen) is) p).1 (λ e. by (bytes_eq y.text x) (h e))
  where
    by : (b : Bool) → is_seen seen x ≡ true → b || is_seen seen x ≡ true
    by true e = refl
    by false e = e

-- the members of a tag, where no name is declared twice
turned : (is : List Item) (found : List Layout) (seen : List (List ℕ)) (x : List ℕ) → second_names seen is ≡ []
    → (has_tag found x ≡ true → is_seen seen x ≡ true)
    → parts_of (unions_onto is found) x ≡ (if has_tag found x then parts_of found x else parts_of (unions_of is) x)
turned [] found seen x p h = by (has_tag found x) refl
  where
    by : (b : Bool) → has_tag found x ≡ b → parts_of found x ≡ (if b then parts_of found x else [])
    by true e = refl
    by false e = no_parts found x e
turned (tree.StructItem s ∷ is) found seen x p h = later s.tag is found seen x p h (λ q k. turned is found (s.tag.text ∷ seen) x q k)
turned (tree.GlobalItem y ∷ is) found seen x p h = later y.name is found seen x p h (λ q k. turned is found (y.name.text ∷ seen) x q k)
turned (tree.FunctionItem f ∷ is) found seen x p h = later f.name is found seen x p h (λ q k. turned is found (f.name.text ∷ seen) x q k)
turned (tree.UnionItem s ∷ is) found seen x p h =
    by (bytes_eq s.tag.text x) refl (has_tag found x) h (turned is (layout_of s ∷ found) (s.tag.text ∷ seen) x n.1 (seen_too (bytes_eq s.tag.text x) h))
  where
    n : (test (not (is_seen seen s.tag.text)) name_rule s.tag.at ≡ []) × (second_names (s.tag.text ∷ seen) is ≡ [])
    n = none_of_both (test (not (is_seen seen s.tag.text)) name_rule s.tag.at) (second_names (s.tag.text ∷ seen) is) p

    new : is_seen seen s.tag.text ≡ false
    new = not-true (is_seen seen s.tag.text) (test_is (not (is_seen seen s.tag.text)) name_rule s.tag.at n.0)

    seen_too : (b : Bool) → (has_tag found x ≡ true → is_seen seen x ≡ true) → (if b then true else has_tag found x) ≡ true → b || is_seen seen x ≡ true
    seen_too true h e = refl
    seen_too false h e = h e

    by : (b : Bool) → bytes_eq s.tag.text x ≡ b → (c : Bool) → (c ≡ true → is_seen seen x ≡ true)
        → parts_of (unions_onto is (layout_of s ∷ found)) x
        ≡ (if (if b then true else c) then (if b then map part_of s.members else parts_of found x) else parts_of (unions_of is) x)
        → parts_of (unions_onto is (layout_of s ∷ found)) x
        ≡ (if c then parts_of found x else (if b then map part_of s.members else parts_of (unions_of is) x))
    by true q true h e =
        absurd (false≢true (sym new ∙ (ap (λ (y : List ℕ). is_seen seen y) ((bytes_eq-Decides s.tag.text x).0 q) ∙ h refl)))
    by true q false h e = e
    by false q true h e = e
    by false q false h e = e

module _ (p : Program) (operands : HasOperands p) (clean : all_tag_faults (judged_tags p) ≡ [])
    (names : second_names (codes "getchar" ∷ codes "putchar" ∷ []) p ≡ [])
  where
    abbrev heads_tables : Tables
    heads_tables = builtins (entries (judged_tags p))

    list_clean : all_tag_faults (judged_list (first_tables p) 0 [] p) ≡ []
    list_clean = subst (λ (js : List Judged). all_tag_faults js ≡ []) (tags_are p) clean

    outcome : Outcome (world_of p) (tables_of false p) (judged_list (first_tables p) 0 [] p) p [] (0 + length p)
    outcome =
        all_steps (world_of p) (tables_of false p) (bare_from 0 p) heads_tables
        (builtins_known (bare_from 0 p) (bare_known 0 p))
        (λ x u e. in_world p u.is_union x (bare_there 0 p [] x u (behind_builtins (bare_from 0 p) x u e)))
        (bare_once (codes "getchar" ∷ codes "putchar" ∷ []) 0 p names) 0 [] p [] [] []
        (codes "getchar" ∷ codes "putchar" ∷ []) operands (first_alike (first_tables p) 0 p) list_clean names
        (subst (λ (js : List Judged). Unseen (tables_of false p) (codes "getchar" ∷ codes "putchar" ∷ []) (entries_with false heads_tables 0 js p)) (tags_are p)
        (builtins_unseen (entries_with false heads_tables 0 (judged_tags p) p))) (λ x e. refl) (record {
          known = λ x. tt;
          declared = λ x u e. absurd cc;
          in_order = tt;
          laid_out = tt;
          laid_types = tt;
          in_tables = tt;
          laid = record { in_order = tt; reached = tt; layouts = refl; unions = λ x e. absurd (false≢true e) };
          seen_all = λ x e. absurd (false≢true e);
          unions_seen = λ x e. absurd (false≢true e);
          few = omega arith;
        })

    its_names : AreNamed (judged_tags p) p
    its_names = subst (λ (js : List Judged). AreNamed js p) (sym (tags_are p)) outcome.named

    here : (x : List ℕ) (u : Tag) → find (tables_of false p) x ≡ Some (OfTag u) → TagHere x u p
    here x u e =
        tag_here heads_tables 0 (judged_tags p) p x u its_names (behind_builtins (entries_with false heads_tables 0 (judged_tags p) p) x u e)

    -- the tables lay out what is judged
    meant : (union : Bool) → layouts_of union (tables_of false p) ≡ layouts_onto union [] (entries (judged_list (first_tables p) 0 [] p))
    meant union =
        let js : List Judged = judged_list (first_tables p) 0 [] p in
        layouts_same union (tables_of false p) heads_tables (tables_aligned heads_tables (judged_tags p) p its_names)
        ∙ (ap (λ (ks : List Judged). layouts_of union (builtins (entries ks))) (tags_are p)
        ∙ ap (λ (g : Tables). layouts_onto union [] g)
        (builtins_meant (entries js) (named_once (codes "getchar" ∷ codes "putchar" ∷ []) js p outcome.named names)))

    -- ---- kinds

    its_kinds : KindsKnown (tables_of false p)
    its_kinds = tables_kinds p its_names (λ x u e. (here x u e).text)

    pub structs_found : StructsFound p
    structs_found = record {
      named = its_names;
      structs = record {
        types = outcome.types;
        in_order = outcome.in_order;
        laid_out = outcome.laid_out;
        few = let l : length outcome.types ≤ 0 + length p = outcome.few in
            let c : length (entries_with false heads_tables 0 (judged_tags p) p) ≡ length p = entries_count heads_tables 0 (judged_tags p) p its_names in
            omega (arith, l, c);
      };
      unions = record { types = outcome.unions.types; laid_out = outcome.unions.laid_out; members = outcome.unions.members };
      there = λ x u e. in_world p u.is_union x ((here x u e).here []);
      texts = λ x u e. (here x u e).text;
      tags = λ x e. in_tables (tables_of false p) (world_of p).structs x outcome.in_tables e;
      kinds = its_kinds;
      lowered = outcome.lowered;
      values = (outcome.unions.values, outcome.unions.reached);
      layouts = meant false ∙ outcome.layouts;
      union_layouts = λ tag. ap (λ (ls : List Layout). parts_of ls tag) (meant true ∙ outcome.unions.layouts [])
          ∙ turned p [] (codes "getchar" ∷ codes "putchar" ∷ []) tag names (λ e. absurd (false≢true e));
    }
