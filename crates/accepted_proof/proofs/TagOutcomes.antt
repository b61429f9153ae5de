-- The structs and unions of a program in which no tag has a fault: each struct has a tag of its own and is made of earlier ones, each union has scalar
-- members with names of their own, and the tables have their members.
use Rattle.std.proofs.Common.{◌≡◌, ◌≤◌, ℕ, suc, Bool, true, false, Some, List, [], ◌∷◌, ◌++◌, refl, sym, subst, ap, ◌∙◌, arith}
use Rattle.std.specs.Prelude.{◌+◌, codes, if◌then◌else◌, length, not}
use Rattle.std.proofs.lemmas.Bool.{not-true}
use Rattle.cyc_tree.specs.Operands.{AreSomeMembers, HasOperands, ItemHasOperands}
use Rattle.cyc_tree.specs.Tree as tree
use Rattle.cyc_tree.specs.Tree.{Item}
use Rattle.source_lowering.specs.Lowerable.{AreStructs, AreValues, HasMember}
use Rattle.source_meaning.specs.Programs.{layout_of, structs_from, unions_of}
use Rattle.source_meaning.specs.Shapes.{Layout, part_shapes}
use Rattle.source_meaning.specs.Steps.{World}
use Rattle.type_proof.proofs.invariant.Layouts.{same_text}
use Rattle.type_proof.specs.Flat.{Declared}
use Rattle.type_proof.specs.Structs.{AreInOrder, AreLaidOut, AreUnions}
use Rattle.source_typing.specs.Extents.{layouts_onto}
use Rattle.source_typing.specs.Faults.{name_rule, test}
use Rattle.source_typing.specs.Functions.{head_of}
use Rattle.source_typing.specs.Globals.{global_entry}
use Rattle.source_typing.specs.Programs.{Judged, all_tag_faults, builtins, entries, entries_with, first_entry, first_from, is_seen, judged_tag, name_of, named}
use Rattle.source_typing.specs.Programs.{second_names}
use Rattle.source_typing.specs.Scope.{at_item}
use Rattle.source_typing.specs.Tables.{OfFunction, Tables, find}
use Rattle.source_typing.proofs.Entries.{judged_name}
use Rattle.source_typing.proofs.Inversion.{none_of_both, test_is}
use Rattle.accepted_proof.proofs.good.Types.{KnowsTags}
use Rattle.accepted_proof.proofs.HeadTags.{TablesAlike}
use Rattle.accepted_proof.proofs.lowered.LaidStructs.{AllReached}
use Rattle.accepted_proof.proofs.lowered.StructSizes.{AreOnce}
use Rattle.accepted_proof.proofs.lowered.Types.{TagsThere}
use Rattle.accepted_proof.proofs.Named.{AreNamed, IsNamed}
use Rattle.accepted_proof.proofs.StructTags.{State, StructStep, UnionStep, other_step, struct_step, union_step}
use Rattle.accepted_proof.proofs.TagNames.{InTables, Unseen, UnionsLeft, left_other, left_union, unseen_step}
use Rattle.accepted_proof.proofs.TagOrder.{alike_step, first_known, item_alike}
use Rattle.accepted_proof.proofs.Tags.{judged_list}

-- ---- what is known once the items are judged

-- the unions among items, the latest first, in front of those that were found before
abbrev pub unions_onto : List Item → List Layout → List Layout
unions_onto [] found = found
unions_onto (tree.UnionItem s ∷ items) found = unions_onto items (layout_of s ∷ found)
unions_onto (_ ∷ items) found = unions_onto items found

-- unions that have members, which are words and fat pointers
abbrev pub HaveValues : List Layout → Type 0
HaveValues [] = Unit {0}
HaveValues (l ∷ ls) = HasMember l.parts × AreValues (part_shapes l.parts) × HaveValues ls

-- the unions of items that are judged
pub record UnionsOut (w : World) (T : Tables) (js : List Judged) (is : List Item) : Type 0 where
  pub types : List Declared
  pub laid_out : AreLaidOut T types (unions_of is)
  pub members : AreUnions types (unions_of is)
  pub values : HaveValues (unions_of is)
  pub reached : AllReached w (unions_of is)
  pub layouts : (ls : List Layout) → layouts_onto true ls (entries js) ≡ unions_onto is ls

pub record Outcome (w : World) (T : Tables) (js : List Judged) (is : List Item) (found : List Layout) (most : ℕ) : Type 0 where
  pub named : AreNamed js is
  pub types : List Declared
  pub in_order : AreInOrder types
  pub laid_out : AreLaidOut T types (structs_from is found)
  pub in_tables : InTables T (structs_from is found)
  pub lowered : AreStructs w.unions (structs_from is found) × AllReached w (structs_from is found)
  pub layouts : layouts_onto false found (entries js) ≡ structs_from is found
  pub unions : UnionsOut w T js is
  pub few : length types ≤ most

-- ---- one item after another

module _ (w : World) (T b hs : Tables) (tags : KnowsTags (builtins b)) (program : TagsThere w (builtins b))
    (once : AreOnce (codes "getchar" ∷ codes "putchar" ∷ []) b)
  where
    abbrev h : Tables
    h = builtins b

    -- the entries that the items have in the end
    abbrev its_entries : ℕ → List Judged → List Item → Tables
    its_entries i done is = entries_with false hs i (judged_list h i done is) is

    pub all_steps : (i : ℕ) (done : List Judged) (is : List Item) (ds us : List Declared) (found : List Layout) (seen : List (List ℕ)) → HasOperands is
        → TablesAlike (entries done ++ first_from h i is) b → all_tag_faults (judged_list h i done is) ≡ [] → second_names seen is ≡ []
        → Unseen T seen (its_entries i done is) → UnionsLeft w.unions seen is → State w T i done ds us found seen
        → Outcome w T (judged_list h i done is) is found (i + length is)
    all_steps i done [] ds us found seen k alike p names unseen left st = record {
      named = tt;
      types = ds;
      in_order = st.in_order;
      laid_out = st.laid_out;
      in_tables = st.in_tables;
      lowered = (st.laid.in_order, st.laid.reached);
      layouts = refl;
      unions = record { types = []; laid_out = tt; members = tt; values = tt; reached = tt; layouts = λ ls. refl };
      few = let l : length ds ≤ i = st.few in omega (arith, l);
    }
    all_steps i done (x ∷ is) ds us found seen k alike p names unseen left st =
        let g : Tables = builtins (entries done ++ first_from h i (x ∷ is)) in
        let j : Judged = judged_tag g i x in
        let c : (j.faults ≡ []) × (all_tag_faults (judged_list h (suc i) (done ++ j ∷ []) is) ≡ []) =
        none_of_both j.faults (all_tag_faults (judged_list h (suc i) (done ++ j ∷ []) is)) p in
        let e : (test (not (is_seen seen (name_of x).text)) name_rule (name_of x).at ≡ []) × (second_names ((name_of x).text ∷ seen) is ≡ []) =
        none_of_both (test (not (is_seen seen (name_of x).text)) name_rule (name_of x).at) (second_names ((name_of x).text ∷ seen) is) names in
        let new : is_seen seen (name_of x).text ≡ false =
        not-true (is_seen seen (name_of x).text) (test_is (not (is_seen seen (name_of x).text)) name_rule (name_of x).at e.0) in
        let alike2 : TablesAlike (entries (done ++ j ∷ []) ++ first_from h (suc i) is) b =
        alike_step done j (named (name_of x) (first_entry h i x)) (first_from h (suc i) is) b (judged_name g i x) (λ d q. item_alike g h i x d q) alike in
        by x k.0 c.0 new (first_known b i done (x ∷ is) tags alike p st.known) alike names unseen left
        (λ types unions layouts later rest s. all_steps (suc i) (done ++ j ∷ []) is types unions layouts ((name_of x).text ∷ seen) k.1 alike2 c.1 e.1
        later rest s)
      where
        judged : Item → Judged
        judged x = judged_tag (builtins (entries done ++ first_from h i (x ∷ is))) i x

        others_with : Item → Tables
        others_with x = entries_with false hs (suc i) (judged_list h (suc i) (done ++ judged x ∷ []) is) is

        -- what follows the item
        Follows : Item → Type 0
        Follows x =
            (types unions : List Declared) (layouts : List Layout) → Unseen T ((name_of x).text ∷ seen) (others_with x)
            → UnionsLeft w.unions ((name_of x).text ∷ seen) is
            → State w T (suc i) (done ++ judged x ∷ []) types unions layouts ((name_of x).text ∷ seen)
            → Outcome w T (judged_list h (suc i) (done ++ judged x ∷ []) is) is layouts (suc i + length is)

        ending : {js : List Judged} {layouts : List Layout} (x : Item) (later : List Layout) → structs_from (x ∷ is) layouts ≡ structs_from is later
            → layouts_onto false layouts ((judged x).entry ∷ []) ≡ later
            → IsNamed (judged x) x → (o : Outcome w T js is later (suc i + length is)) → UnionsOut w T (judged x ∷ js) (x ∷ is)
            → Outcome w T (judged x ∷ js) (x ∷ is) layouts (i + length (x ∷ is))
        ending {js = js} {layouts = layouts} x later e l n o u = record {
          named = (n, o.named);
          types = o.types;
          in_order = o.in_order;
          laid_out = subst (λ (ls : List Layout). AreLaidOut T o.types ls) (sym e) o.laid_out;
          in_tables = subst (λ (ls : List Layout). InTables T ls) (sym e) o.in_tables;
          lowered = subst (λ (ls : List Layout). AreStructs w.unions ls × AllReached w ls) (sym e) o.lowered;
          layouts = ap (λ (ls : List Layout). layouts_onto false ls (entries js)) l ∙ (o.layouts ∙ sym e);
          unions = u;
          few = let l : length o.types ≤ suc i + length is = o.few in omega (arith, l);
        }

        -- an item that is no union
        still : {js : List Judged} (x : Item) → unions_of (x ∷ is) ≡ unions_of is
            → ((ls : List Layout) → layouts_onto true ls ((judged x).entry ∷ []) ≡ ls) → ((ls : List Layout) → unions_onto (x ∷ is) ls ≡ unions_onto is ls)
            → UnionsOut w T js is → UnionsOut w T (judged x ∷ js) (x ∷ is)
        still {js = js} x e l m u = record {
          types = u.types;
          laid_out = subst (λ (ls : List Layout). AreLaidOut T u.types ls) (sym e) u.laid_out;
          members = subst (λ (ls : List Layout). AreUnions u.types ls) (sym e) u.members;
          values = subst (λ (ls : List Layout). HaveValues ls) (sym e) u.values;
          reached = subst (λ (ls : List Layout). AllReached w ls) (sym e) u.reached;
          layouts = λ ls. ap (λ (ms : List Layout). layouts_onto true ms (entries js)) (l ls) ∙ (u.layouts ls ∙ sym (m ls));
        }

        union_out : {js : List Judged} (s : tree.Structure) (has_members : AreSomeMembers s.members)
            → UnionStep w T b h program once i done is ds us found seen s has_members st (judged (tree.UnionItem s))
            → UnionsOut w T js is → UnionsOut w T (judged (tree.UnionItem s) ∷ js) (tree.UnionItem s ∷ is)
        union_out {js = js} s has_members r u = record {
          types = record { tag = s.tag.text; parts = r.types } ∷ u.types;
          laid_out = (refl, r.laid, u.laid_out);
          members = (r.members, r.apart, u.members);
          values = (r.some, r.values, u.values);
          reached = (r.reached, u.reached);
          layouts = λ ls. ap (λ (ms : List Layout). layouts_onto true ms (entries js)) (r.layout ls) ∙ u.layouts (layout_of s ∷ ls);
        }

        by : (x : Item) → ItemHasOperands x → (judged x).faults ≡ [] → is_seen seen (name_of x).text ≡ false
            → KnowsTags (first_from h i (x ∷ is))
            → TablesAlike (entries done ++ first_from h i (x ∷ is)) b → second_names seen (x ∷ is) ≡ []
            → Unseen T seen (its_entries i done (x ∷ is)) → UnionsLeft w.unions seen (x ∷ is) → Follows x
            → Outcome w T (judged_list h i done (x ∷ is)) (x ∷ is) found (i + length (x ∷ is))
        by (tree.StructItem s) has_members p new first alike names unseen left go =
            let there : find T s.tag.text ≡ Some (judged (tree.StructItem s)).entry.entry =
            unseen s.tag.text new
            ∙ ap (λ (c : Bool). if c then Some (judged (tree.StructItem s)).entry.entry else find (others_with (tree.StructItem s)) s.tag.text)
            (same_text s.tag.text) in
            let r : StructStep w T b h program once i done is ds us found seen s has_members st (judged (tree.StructItem s)) =
            struct_step w T b h program once i done is ds us found seen s has_members st alike names first p new there in
            let o = go r.types us (layout_of s ∷ found)
            (unseen_step T (others_with (tree.StructItem s)) seen (named s.tag (judged (tree.StructItem s)).entry.entry) unseen)
            (left_other w.unions seen s.tag.text is left) r.state in
            ending (tree.StructItem s) (layout_of s ∷ found) refl r.layout r.known o
            (still (tree.StructItem s) refl (λ ls. refl) (λ ls. refl) o.unions)
        by (tree.UnionItem s) has_members p new first alike names unseen left go =
            let there : find T s.tag.text ≡ Some (judged (tree.UnionItem s)).entry.entry =
            unseen s.tag.text new
            ∙ ap (λ (c : Bool). if c then Some (judged (tree.UnionItem s)).entry.entry else find (others_with (tree.UnionItem s)) s.tag.text)
            (same_text s.tag.text) in
            let r : UnionStep w T b h program once i done is ds us found seen s has_members st (judged (tree.UnionItem s)) =
            union_step w T b h program once i done is ds us found seen s has_members st alike first p new left there in
            let o = go ds (record { tag = s.tag.text; parts = r.types } ∷ us) found
            (unseen_step T (others_with (tree.UnionItem s)) seen (named s.tag (judged (tree.UnionItem s)).entry.entry) unseen)
            (left_union w.unions seen s is left) r.state in
            ending (tree.UnionItem s) found refl refl r.known o (union_out s has_members r o.unions)
        by (tree.GlobalItem y) has_members p new first alike names unseen left go =
            let o = go ds us found
            (unseen_step T (others_with (tree.GlobalItem y)) seen (named y.name (global_entry (at_item false hs i) y)) unseen)
            (left_other w.unions seen y.name.text is left) (other_step w T i done ds us found seen y.name (judged (tree.GlobalItem y)) refl st) in
            ending (tree.GlobalItem y) found refl refl refl o (still (tree.GlobalItem y) refl (λ ls. refl) (λ ls. refl) o.unions)
        by (tree.FunctionItem f) has_members p new first alike names unseen left go =
            let o = go ds us found
            (unseen_step T (others_with (tree.FunctionItem f)) seen (named f.name (OfFunction (head_of false hs f).signature)) unseen)
            (left_other w.unions seen f.name.text is left) (other_step w T i done ds us found seen f.name (judged (tree.FunctionItem f)) refl st) in
            ending (tree.FunctionItem f) found refl refl refl o (still (tree.FunctionItem f) refl (λ ls. refl) (λ ls. refl) o.unions)
