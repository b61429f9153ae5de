-- How locals are linked: where a block begins or is left, and with one local more or less.
use Rattle.std.proofs.Common.{◌≡◌, ℕ, suc, ◌≤◌, ◌-◌, List, [], ◌∷◌, length, Bor, Bool, true, false, refl, sym, ap, ◌∙◌, arith}
use Rattle.std.proofs.lemmas.List.{length-reverse}
use Rattle.std.proofs.lemmas.Map.Text.{hash_map_updates_str}
use Rattle.std.specs.Cmp.Lexicographic.{bytes_decides}
use Rattle.std.specs.HashMap as hash
use Rattle.std.specs.HashMap.{HashMap}
use Rattle.std.specs.Prelude.{Option, Some, None, IsSome, IfSome, is_some, if◌then◌else◌, option_map, reverse, unwrap_or, bytes_eq}
use Rattle.source_lowering.specs.Lowered.{InBlock, Named, local_named}
use Rattle.source_lowering.specs.Programs.{one_out, outward}
use Rattle.lower_checks.specs.Views.{stored_tree}
use Rattle.lower_checks.specs.Visible.{names_of}
use Rattle.lower_checks.specs.Marks.{AreKept, AreLinked, depth_of, found, last_in, marks_of}
use Rattle.lower_checks.specs.declared.last.Lasts.{Lasts}
use Rattle.lower_checks.specs.declared.mark.Local.{Local}
use Rattle.lower_checks.specs.declared.mark.Mark.{Mark}
use Rattle.lower_checks.specs.declared.mark.Mark.TheVariants.{Begin, Declare}

-- what a table has at its names is itself an option
unwrapped : {V : Type 0} (own : Bool) (local : Option V) (others : Option (Option V))
    → unwrap_or (if own then Some local else others) None ≡ (if own then local else unwrap_or others None)
unwrapped true local others = refl
unwrapped false local others = refl

-- a table with another innermost local of one name
pub last_updated : {S V : Type 0} (name : List ℕ) (old new : HashMap (Bor (List ℕ)) (Option V) S) (local : Option V)
    → hash.UpdatesBy (λ x y. bytes_eq x.now y.now) (λ key. bytes_eq name key.now) old new (Some local)
    → (other : List ℕ) → unwrap_or (hash.get_by (λ key. bytes_eq other key.now) new) None
    ≡ (if bytes_eq name other then local else unwrap_or (hash.get_by (λ key. bytes_eq other key.now) old) None)
last_updated name old new local updates other =
    ap (λ o. unwrap_or o None) (hash_map_updates_str name old new (Some local) updates other)
    ∙ unwrapped (bytes_eq name other) local (hash.get_by (λ key. bytes_eq other key.now) old)

-- each block that is open has its mark
depth_within : (marks : List Mark) → depth_of marks ≤ length marks
depth_within [] = omega arith
depth_within (Begin ∷ marks) = omega (arith, depth_within marks)
depth_within (Declare l hidden ∷ marks) = omega (arith, depth_within marks)

-- so no more blocks are open than there are marks, the last of which is the first of those that are linked
pub depth_few : (marks : List Mark) (last : Lasts Local) (depth : ℕ) → AreLinked (reverse marks) last depth → depth ≤ length marks
depth_few marks last depth linked = omega (arith, linked.depth_is, depth_within (reverse marks), length-reverse marks)

-- ---- the table and the marks

-- with one local more
pub linked_more : (marks : List Mark) (l : Local) (hidden : Option Local) (old new : Lasts Local) (depth : ℕ) → AreLinked marks old depth
    → hidden ≡ last_in old l.name.now → l.depth ≡ depth
    → ((other : List ℕ) → last_in new other ≡ (if bytes_eq l.name.now other then Some l else last_in old other))
    → AreLinked (Declare l hidden ∷ marks) new depth
linked_more marks l hidden old new depth linked hides depth_is added = record {
  kept = (record { hides = hides ∙ linked.means l.name.now; depth = depth_is ∙ linked.depth_is }, linked.kept);
  means = λ other. added other ∙ ap (λ o. if bytes_eq l.name.now other then Some l else o) (linked.means other);
  depth_is = linked.depth_is;
}

-- with other tables that have the same
pub linked_same : (marks : List Mark) (old new : Lasts Local) (depth : ℕ) → AreLinked marks old depth
    → ((other : List ℕ) → last_in new other ≡ last_in old other) → AreLinked marks new depth
linked_same marks old new depth linked same = record {
  kept = linked.kept;
  means = λ other. same other ∙ linked.means other;
  depth_is = linked.depth_is;
}

-- the last local's name is in the table
pub linked_last : (marks : List Mark) (l : Local) (hidden : Option Local) (last : Lasts Local) (depth : ℕ) → AreLinked (Declare l hidden ∷ marks) last depth
    → IsSome (last_in last l.name.now)
linked_last marks l hidden last depth linked =
    ap is_some (linked.means l.name.now ∙ ap (λ b. if b then Some l else found marks l.name.now) ((bytes_decides l.name.now l.name.now).1 refl))

restored : {V : Type 0} (own : Bool) (hidden others : Option V) (l : V) → (own ≡ true → hidden ≡ others)
    → (if own then hidden else if own then Some l else others) ≡ others
restored true hidden others l same = same refl
restored false hidden others l same = refl

-- with one local less
pub linked_less : (marks : List Mark) (l : Local) (hidden : Option Local) (old new : Lasts Local) (depth : ℕ) → AreLinked (Declare l hidden ∷ marks) old depth
    → ((other : List ℕ) → last_in new other ≡ (if bytes_eq l.name.now other then hidden else last_in old other)) → AreLinked marks new depth
linked_less marks l hidden old new depth linked set = record {
  kept = linked.kept.1;
  means = λ other. set other
      ∙ ap (λ o. if bytes_eq l.name.now other then hidden else o) (linked.means other)
      ∙ restored (bytes_eq l.name.now other) hidden (found marks other) l
      (λ same. linked.kept.0.hides ∙ ap (found marks) ((bytes_decides l.name.now other).0 same));
  depth_is = linked.depth_is;
}

-- ---- the innermost local of a name

-- a local, where so many blocks are open
abbrev pub named_at : ℕ → Local → Named
named_at depth l = record { name = l.name.now; shape = stored_tree l.stored; home = InBlock (depth - l.depth) l.index }

abbrev Within : ℕ → Option Local → Type 0
Within depth local = IfSome local (λ l. l.depth ≤ depth)

within_more : (depth : ℕ) (local : Option Local) → Within depth local → Within (suc depth) local
within_more depth (Some l) h = omega (arith, h)
within_more depth None h = tt

within_if : (own : Bool) (depth : ℕ) (l : Local) (local : Option Local) → l.depth ≡ depth → Within depth local → Within depth (if own then Some l else local)
within_if true depth l local is h = omega (arith, is)
within_if false depth l local is h = h

-- it was declared where no more blocks are open than now
found_within : (ms : List Mark) (name : List ℕ) → AreKept ms → Within (depth_of ms) (found ms name)
found_within [] name kept = tt
found_within (Begin ∷ ms) name kept = within_more (depth_of ms) (found ms name) (found_within ms name kept)
found_within (Declare l hidden ∷ ms) name kept =
    within_if (bytes_eq l.name.now name) (depth_of ms) l (found ms name) kept.0.depth (found_within ms name kept.1)

out_more : (depth : ℕ) (local : Option Local) → Within depth local
    → option_map (named_at (suc depth)) local ≡ option_map one_out (option_map (named_at depth) local)
out_more depth (Some l) h =
    let more : suc depth - l.depth ≡ suc (depth - l.depth) = omega (arith, h) in
    ap (λ n. Some (record { name = l.name.now; shape = stored_tree l.stored; home = InBlock n l.index })) more
out_more depth None h = refl

moved_if : (own : Bool) (n : Named) (local : Option Named)
    → (if own then Some (one_out n) else option_map one_out local) ≡ option_map one_out (if own then Some n else local)
moved_if true n local = refl
moved_if false n local = refl

pub named_outward : (ns : List Named) (name : List ℕ) → local_named (outward ns) name ≡ option_map one_out (local_named ns name)
named_outward [] name = refl
named_outward (n ∷ ns) name =
    ap (λ o. if bytes_eq n.name name then Some (one_out n) else o) (named_outward ns name)
    ∙ moved_if (bytes_eq n.name name) n (local_named ns name)

own_if : (own : Bool) (depth : ℕ) (l : Local) (local : Option Local) → l.depth ≡ depth
    → option_map (named_at depth) (if own then Some l else local)
    ≡ (if own then Some (record { name = l.name.now; shape = stored_tree l.stored; home = InBlock 0 l.index }) else option_map (named_at depth) local)
own_if true depth l local is =
    let none : depth - l.depth ≡ 0 = omega (arith, is) in
    ap (λ n. Some (record { name = l.name.now; shape = stored_tree l.stored; home = InBlock n l.index })) none
own_if false depth l local is = refl

-- it is the innermost one that is visible
pub found_named : (ms : List Mark) (name : List ℕ) → AreKept ms
    → option_map (named_at (depth_of ms)) (found ms name) ≡ local_named (names_of (marks_of ms)) name
found_named [] name kept = refl
found_named (Begin ∷ ms) name kept =
    out_more (depth_of ms) (found ms name) (found_within ms name kept)
    ∙ ap (option_map one_out) (found_named ms name kept)
    ∙ sym (named_outward (names_of (marks_of ms)) name)
found_named (Declare l hidden ∷ ms) name kept =
    own_if (bytes_eq l.name.now name) (depth_of ms) l (found ms name) kept.0.depth
    ∙ ap (λ o. if bytes_eq l.name.now name then Some (record { name = l.name.now; shape = stored_tree l.stored; home = InBlock 0 l.index }) else o)
    (found_named ms name kept.1)

-- so it is by the table's local
pub visible_named : (marks : List Mark) (last : Lasts Local) (depth : ℕ) → AreLinked marks last depth → (name : List ℕ)
    → option_map (named_at depth) (found marks name) ≡ local_named (names_of (marks_of marks)) name
visible_named marks last depth linked name =
    ap (λ d. option_map (named_at d) (found marks name)) linked.depth_is ∙ found_named marks name linked.kept
