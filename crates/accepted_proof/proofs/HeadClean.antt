-- A struct or a union that has no fault once it is judged has none of those that hang on no tag.
use Rattle.std.proofs.Common.{◌≡◌, ℕ, Bool, true, false, Option, Some, None, List, [], ◌∷◌, refl, sym, subst, ap, ◌∙◌, inl, inr}
use Rattle.std.specs.Prelude.{length, map}
use Rattle.cyc_tree.specs.Tree as tree
use Rattle.cyc_tree.specs.Tree.{Pointer, TypeName}
use Rattle.source_meaning.specs.Shapes as shapes
use Rattle.source_typing.specs.Faults.{Fault}
use Rattle.source_typing.specs.Scope.{Env}
use Rattle.source_typing.specs.Tables.{Entry, OfBuiltin, OfOther, OfTag, Tables, Tag, as_tag, find, tag_in}
use Rattle.source_typing.specs.Tags.{head_faults, head_fitting, head_type, member_faults, member_fitting, member_type, settled_alone}
use Rattle.source_typing.specs.Types.{PartialType, StaticType, Struct, Union, same_bool}
use Rattle.source_typing.specs.Verdicts.{Of, Unjudged, Verdict, after, faults_of, unless_faulty}
use Rattle.source_typing.specs.Written.{Found, RegionNamed, all_found, argument_spots, built, count_fits, counted_type, regions_of_tag, if_sound, of_kind, spot}
use Rattle.source_typing.specs.Written.{spots_of, tag_of, with_arguments, written_on}
use Rattle.source_typing.proofs.Inversion.{both_none, none_of_both}
use Rattle.source_typing.specs.Named.{NamesBelow}
use Rattle.accepted_proof.proofs.FoundRegions.{AreAllFound, base_arguments, spots_found}
use Rattle.accepted_proof.proofs.good.Pointers.{HasRefused, PointedIfSome, struct_pointed, union_pointed}
use Rattle.accepted_proof.proofs.good.Types.{count_is, union_count_is}
use Rattle.accepted_proof.proofs.HeadTags.{IsTagged, IsUnjudged, MeansFirst, MemberCan, after_head, asks_fit, member_can, no_bad, pointed_fits, same_fault}
use Rattle.accepted_proof.proofs.HeadTags.{tagged_pointers, union_asks_fit}

-- ---- members

module _ (n : ℕ) (union : Bool) (g h : Env) (tags : (x : List ℕ) → MeansFirst (find g.tables x) (find h.tables x)) (names : g.names ≡ h.names)
    (below : NamesBelow n h.names)
  where
    pub head_clean : (t : TypeName) → faults_of (member_type g union t) ≡ [] → faults_of (head_type h union t) ≡ []
    head_clean t p = by t.base p
      where
        with_base : tree.Base → TypeName
        with_base b = record { at = t.at; base = b; pointers = t.pointers }

        -- the rest of a member's judgement at the start, once its tag was looked up
        head_after : tree.Base → List Found × List Fault → Verdict ℕ → Verdict StaticType
        head_after b x v = after (after (written_on (with_base b) x.0 x.1 v) (settled_alone t.at)) (head_fitting union t.at)

        -- and in the end
        member_after : tree.Base → List Found × List Fault → Verdict ℕ → Verdict StaticType
        member_after b x v = after (after (written_on (with_base b) x.0 x.1 v) (settled_alone t.at)) (member_fitting g union t.at)

        -- what is found for all regions of a type
        found : Tables → List RegionNamed → tree.Base → List Found × List Fault
        found g names b = all_found names (spots_of g (with_base b))

        -- a type that names no tag
        plain : (b : tree.Base) → spots_of g.tables (with_base b) ≡ spots_of h.tables (with_base b)
            → faults_of (member_after b (found g.tables g.names b) (Of 0)) ≡ [] → faults_of (head_after b (found h.tables h.names b) (Of 0)) ≡ []
        plain b same p =
            let x : List Found × List Fault = found h.tables h.names b in
            after_head (written_on (with_base b) x.0 x.1 (Of 0)) t.at g union
            (subst (λ ss. faults_of (member_after b (all_found h.names ss) (Of 0)) ≡ []) same
            (subst (λ ns. faults_of (member_after b (all_found ns (spots_of g.tables (with_base b))) (Of 0)) ≡ []) names p))

        -- a shape that begins with a tag, where its type is a member's
        whole_shape : tree.Base → shapes.Shape
        whole_shape b = shapes.pointed t.pointers (shapes.base_shape b)

        names_below : NamesBelow n g.names
        names_below = subst (λ ns. NamesBelow n ns) (sym names) below

        -- what was judged of such a type
        counted : (b : tree.Base) (m : ℕ) (x : List Found × List Fault)
            → (x.1 ≡ [] → count_fits b m ≡ true → PointedIfSome (HasRefused t.pointers) true n (whole_shape b) (built b m t.pointers x.0))
            → IsTagged (whole_shape b) → faults_of (member_after b x (Of m)) ≡ [] → MemberCan union (HasRefused t.pointers) (whole_shape b)
        counted b m x k tagged p =
            let none : x.1 ≡ [] = no_bad g union (with_base b) x.0 x.1 (Of m) p in
            by (count_fits b m) refl none
            (subst (λ fs. faults_of (after (after (unless_faulty fs (counted_type (with_base b) x.0 m (count_fits b m))) (settled_alone t.at))
            (member_fitting g union t.at)) ≡ []) none p)
          where
            by : (c : Bool) → count_fits b m ≡ c → x.1 ≡ []
                → faults_of (after (after (counted_type (with_base b) x.0 m c) (settled_alone t.at)) (member_fitting g union t.at)) ≡ []
                → MemberCan union (HasRefused t.pointers) (whole_shape b)
            by true q none p =
                member_can g t.at n union (HasRefused t.pointers) (whole_shape b) (built b m t.pointers x.0) (k none q) tagged p
            by false q none p = absurd cc

        -- a struct's, by what its tag means at the start
        tagged : tree.Name → List tree.RegionName → Verdict ℕ → Verdict StaticType
        tagged x rs v =
            head_after (tree.Struct x rs) (found h.tables h.names (tree.Struct x rs)) (after v (λ n. Of (length (argument_spots h.tables x rs))))

        pointed : (x : tree.Name) (rs : List tree.RegionName) (m : ℕ) → (found h.tables h.names (tree.Struct x rs)).1 ≡ []
            → MemberCan union (HasRefused t.pointers) (whole_shape (tree.Struct x rs)) → faults_of (tagged x rs (Of m)) ≡ []
        pointed x rs m bad can =
            let c : ℕ = length (argument_spots h.tables x rs) in
            let f : List Found × List Fault = found h.tables h.names (tree.Struct x rs) in
            subst (λ b. faults_of (after (after (unless_faulty f.1 (counted_type (with_base (tree.Struct x rs)) f.0 c b)) (settled_alone t.at))
            (head_fitting union t.at)) ≡ []) (sym (asks_fit h.tables x rs))
            (pointed_fits t.at n union (HasRefused t.pointers) (whole_shape (tree.Struct x rs)) f.1
            (with_arguments c (Struct x.text) [] t.pointers f.0) can.never bad
            (struct_pointed true n c x.text [] t.pointers f.0 tt
            (spots_found n h.names (argument_spots h.tables x rs) t.pointers below (base_arguments h.tables (tree.Struct x rs)) bad)) can.can)

        struct_can : (x : tree.Name) (rs : List tree.RegionName) (m : ℕ) → m ≡ regions_of_tag (tag_in g.tables x.text)
            → faults_of (member_after (tree.Struct x rs) (found g.tables g.names (tree.Struct x rs)) (Of m)) ≡ []
            → MemberCan union (HasRefused t.pointers) (whole_shape (tree.Struct x rs))
        struct_can x rs m same p =
            let f : List Found × List Fault = found g.tables g.names (tree.Struct x rs) in
            counted (tree.Struct x rs) m f
            (λ none q. struct_pointed true n m x.text [] t.pointers f.0 tt
            (subst (λ (c : ℕ). AreAllFound true n c t.pointers f.0) (count_is g.tables x rs m same q)
            (spots_found n g.names (argument_spots g.tables x rs) t.pointers names_below (base_arguments g.tables (tree.Struct x rs)) none)))
            (tagged_pointers t.pointers (shapes.StructShape x.text) tt) p

        unjudged : (x : tree.Name) (rs : List tree.RegionName) (d : Option Entry) → (found h.tables h.names (tree.Struct x rs)).1 ≡ [] → IsUnjudged d
            → faults_of (tagged x rs (tag_of d false x.at)) ≡ []
        unjudged x rs (Some (OfTag z)) bad u =
            subst (λ b. faults_of (tagged x rs (if_sound b (of_kind (same_bool z.is_union false) z x.at))) ≡ []) (sym u)
            (subst (λ fs. faults_of (after (after (unless_faulty fs (let v : Verdict PartialType = Unjudged in v)) (settled_alone t.at))
            (head_fitting union t.at)) ≡ []) (sym bad) refl)
        unjudged x rs _ bad u = absurd u

        -- a tag that is judged in both
        struct_both : (x : tree.Name) (rs : List tree.RegionName) (y z : Tag) → find g.tables x.text ≡ Some (OfTag y) → y.is_union ≡ z.is_union
            → z.sound ≡ true → y.sound ≡ true → (found h.tables h.names (tree.Struct x rs)).1 ≡ []
            → faults_of (member_after (tree.Struct x rs) (found g.tables g.names (tree.Struct x rs)) (tag_of (Some (OfTag y)) false x.at)) ≡ []
            → faults_of (tagged x rs (tag_of (Some (OfTag z)) false x.at)) ≡ []
        struct_both x rs y z there same sound other bad p =
            let f : List Found × List Fault = found g.tables g.names (tree.Struct x rs) in
            subst (λ b. faults_of (tagged x rs (if_sound b (of_kind (same_bool z.is_union false) z x.at))) ≡ []) (sym sound)
            (of (same_bool z.is_union false)
            (subst (λ b. faults_of (member_after (tree.Struct x rs) f (of_kind (same_bool b false) y x.at)) ≡ []) same
            (subst (λ b. faults_of (member_after (tree.Struct x rs) f (if_sound b (of_kind (same_bool y.is_union false) y x.at))) ≡ []) other p)))
          where
            of : (b : Bool) → faults_of (member_after (tree.Struct x rs) (found g.tables g.names (tree.Struct x rs)) (of_kind b y x.at)) ≡ []
                → faults_of (tagged x rs (of_kind b z x.at)) ≡ []
            of true q =
                pointed x rs z.regions bad
                (struct_can x rs y.regions (ap (λ (o : Option Entry). regions_of_tag (as_tag o)) (sym there)) q)
            of false q = absurd cc

        struct : (x : tree.Name) (rs : List tree.RegionName) (o d : Option Entry) → find g.tables x.text ≡ o → MeansFirst o d
            → (found h.tables h.names (tree.Struct x rs)).1 ≡ []
            → faults_of (member_after (tree.Struct x rs) (found g.tables g.names (tree.Struct x rs)) (tag_of o false x.at)) ≡ []
            → faults_of (tagged x rs (tag_of d false x.at)) ≡ []
        struct x rs o d there (inl u) bad p = unjudged x rs d bad u
        struct x rs None None there (inr m) bad p = absurd cc
        struct x rs (Some (OfBuiltin a)) (Some (OfBuiltin b)) there (inr m) bad p = absurd cc
        struct x rs (Some OfOther) (Some OfOther) there (inr m) bad p = absurd cc
        struct x rs (Some (OfTag y)) (Some (OfTag z)) there (inr m) bad p = struct_both x rs y z there m.0.1 m.1 m.2 bad p
        struct x rs None (Some d) there (inr m) bad p = absurd m.0
        struct x rs (Some o) None there (inr m) bad p = absurd m.0
        struct x rs (Some o) (Some d) there (inr m) bad p = absurd m.0

        -- and a union's, by what its tag means at the start
        union_tagged : tree.Name → List tree.RegionName → Verdict ℕ → Verdict StaticType
        union_tagged x rs v =
            head_after (tree.Union x rs) (found h.tables h.names (tree.Union x rs)) (after v (λ n. Of (length (argument_spots h.tables x rs))))

        union_led : (x : tree.Name) (rs : List tree.RegionName) (m : ℕ) → (found h.tables h.names (tree.Union x rs)).1 ≡ []
            → MemberCan union (HasRefused t.pointers) (whole_shape (tree.Union x rs)) → faults_of (union_tagged x rs (Of m)) ≡ []
        union_led x rs m bad can =
            let c : ℕ = length (argument_spots h.tables x rs) in
            let f : List Found × List Fault = found h.tables h.names (tree.Union x rs) in
            subst (λ b. faults_of (after (after (unless_faulty f.1 (counted_type (with_base (tree.Union x rs)) f.0 c b)) (settled_alone t.at))
            (head_fitting union t.at)) ≡ []) (sym (union_asks_fit h.tables x rs))
            (pointed_fits t.at n union (HasRefused t.pointers) (whole_shape (tree.Union x rs)) f.1
            (with_arguments c (Union x.text) [] t.pointers f.0) can.never bad
            (union_pointed true n c x.text [] t.pointers f.0 tt
            (spots_found n h.names (argument_spots h.tables x rs) t.pointers below (base_arguments h.tables (tree.Union x rs)) bad)) can.can)

        union_can : (x : tree.Name) (rs : List tree.RegionName) (m : ℕ) → m ≡ regions_of_tag (tag_in g.tables x.text)
            → faults_of (member_after (tree.Union x rs) (found g.tables g.names (tree.Union x rs)) (Of m)) ≡ []
            → MemberCan union (HasRefused t.pointers) (whole_shape (tree.Union x rs))
        union_can x rs m same p =
            let f : List Found × List Fault = found g.tables g.names (tree.Union x rs) in
            counted (tree.Union x rs) m f
            (λ none q. union_pointed true n m x.text [] t.pointers f.0 tt
            (subst (λ (c : ℕ). AreAllFound true n c t.pointers f.0) (union_count_is g.tables x rs m same q)
            (spots_found n g.names (argument_spots g.tables x rs) t.pointers names_below (base_arguments g.tables (tree.Union x rs)) none)))
            (tagged_pointers t.pointers (shapes.UnionShape x.text) tt) p

        union_unjudged : (x : tree.Name) (rs : List tree.RegionName) (d : Option Entry) → (found h.tables h.names (tree.Union x rs)).1 ≡ [] → IsUnjudged d
            → faults_of (union_tagged x rs (tag_of d true x.at)) ≡ []
        union_unjudged x rs (Some (OfTag z)) bad u =
            subst (λ b. faults_of (union_tagged x rs (if_sound b (of_kind (same_bool z.is_union true) z x.at))) ≡ []) (sym u)
            (subst (λ fs. faults_of (after (after (unless_faulty fs (let v : Verdict PartialType = Unjudged in v)) (settled_alone t.at))
            (head_fitting union t.at)) ≡ []) (sym bad) refl)
        union_unjudged x rs _ bad u = absurd u

        union_both : (x : tree.Name) (rs : List tree.RegionName) (y z : Tag) → find g.tables x.text ≡ Some (OfTag y) → y.is_union ≡ z.is_union
            → z.sound ≡ true → y.sound ≡ true → (found h.tables h.names (tree.Union x rs)).1 ≡ []
            → faults_of (member_after (tree.Union x rs) (found g.tables g.names (tree.Union x rs)) (tag_of (Some (OfTag y)) true x.at)) ≡ []
            → faults_of (union_tagged x rs (tag_of (Some (OfTag z)) true x.at)) ≡ []
        union_both x rs y z there same sound other bad p =
            let f : List Found × List Fault = found g.tables g.names (tree.Union x rs) in
            subst (λ b. faults_of (union_tagged x rs (if_sound b (of_kind (same_bool z.is_union true) z x.at))) ≡ []) (sym sound)
            (of (same_bool z.is_union true)
            (subst (λ b. faults_of (member_after (tree.Union x rs) f (of_kind (same_bool b true) y x.at)) ≡ []) same
            (subst (λ b. faults_of (member_after (tree.Union x rs) f (if_sound b (of_kind (same_bool y.is_union true) y x.at))) ≡ []) other p)))
          where
            of : (b : Bool) → faults_of (member_after (tree.Union x rs) (found g.tables g.names (tree.Union x rs)) (of_kind b y x.at)) ≡ []
                → faults_of (union_tagged x rs (of_kind b z x.at)) ≡ []
            of true q =
                union_led x rs z.regions bad
                (union_can x rs y.regions (ap (λ (o : Option Entry). regions_of_tag (as_tag o)) (sym there)) q)
            of false q = absurd cc

        of_union : (x : tree.Name) (rs : List tree.RegionName) (o d : Option Entry) → find g.tables x.text ≡ o → MeansFirst o d
            → (found h.tables h.names (tree.Union x rs)).1 ≡ []
            → faults_of (member_after (tree.Union x rs) (found g.tables g.names (tree.Union x rs)) (tag_of o true x.at)) ≡ []
            → faults_of (union_tagged x rs (tag_of d true x.at)) ≡ []
        of_union x rs o d there (inl u) bad p = union_unjudged x rs d bad u
        of_union x rs None None there (inr m) bad p = absurd cc
        of_union x rs (Some (OfBuiltin a)) (Some (OfBuiltin b)) there (inr m) bad p = absurd cc
        of_union x rs (Some OfOther) (Some OfOther) there (inr m) bad p = absurd cc
        of_union x rs (Some (OfTag y)) (Some (OfTag z)) there (inr m) bad p = union_both x rs y z there m.0.1 m.1 m.2 bad p
        of_union x rs None (Some d) there (inr m) bad p = absurd m.0
        of_union x rs (Some o) None there (inr m) bad p = absurd m.0
        of_union x rs (Some o) (Some d) there (inr m) bad p = absurd m.0

        by : (b : tree.Base) → faults_of (member_type g union (with_base b)) ≡ []
            → faults_of (head_type h union (with_base b)) ≡ []
        by tree.Int p = plain tree.Int refl p
        by tree.Unsigned p = plain tree.Unsigned refl p
        by tree.Char p = plain tree.Char refl p
        by tree.Void p = plain tree.Void refl p
        by (tree.Struct x rs) p =
            let bad : (found h.tables h.names (tree.Struct x rs)).1 ≡ [] =
            same_fault h.tables g.tables h.names x rs (map (λ (p : Pointer). spot true p.region) t.pointers)
            ∙ (ap (λ (ns : List RegionNamed). (found g.tables ns (tree.Struct x rs)).1) (sym names)
            ∙ no_bad g union (with_base (tree.Struct x rs)) (found g.tables g.names (tree.Struct x rs)).0 (found g.tables g.names (tree.Struct x rs)).1
            (tag_of (find g.tables x.text) false x.at) p) in
            struct x rs (find g.tables x.text) (find h.tables x.text) refl (tags x.text) bad p
        by (tree.Union x rs) p =
            let bad : (found h.tables h.names (tree.Union x rs)).1 ≡ [] =
            same_fault h.tables g.tables h.names x rs (map (λ (p : Pointer). spot true p.region) t.pointers)
            ∙ (ap (λ (ns : List RegionNamed). (found g.tables ns (tree.Union x rs)).1) (sym names)
            ∙ no_bad g union (with_base (tree.Union x rs)) (found g.tables g.names (tree.Union x rs)).0 (found g.tables g.names (tree.Union x rs)).1
            (tag_of (find g.tables x.text) true x.at) p) in
            of_union x rs (find g.tables x.text) (find h.tables x.text) refl (tags x.text) bad p
        by (tree.Handle r) p = plain (tree.Handle r) refl p
        by (tree.Key r) p = plain (tree.Key r) refl p

    pub heads_clean : (ms : List tree.Member) → member_faults g union ms ≡ [] → head_faults h union ms ≡ []
    heads_clean [] p = refl
    heads_clean (m ∷ ms) p =
        let z : (faults_of (member_type g union m.of) ≡ []) × (member_faults g union ms ≡ []) =
        none_of_both (faults_of (member_type g union m.of)) (member_faults g union ms) p in
        both_none (faults_of (head_type h union m.of)) (head_faults h union ms) (head_clean m.of z.0) (heads_clean ms z.1)
