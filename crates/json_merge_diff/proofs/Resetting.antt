-- Where the first merge patch resets what the second changes, none does both.
use Rattle.json_patch_merge.proofs.Common.{◌≡◌, ◌≢◌, ℕ, suc, ◌+◌, ◌≤◌, List, ◌∷◌, [], Option, Some, None, refl, sym, ap, ◌∙◌, subst, rules, arith}
use Rattle.json_patch_merge.proofs.Common.{Data, Members, no_members, member, null, boolean, object, get, get_member, members_of, IsDocument, sight_of, Sight, key, after_merge}
use Rattle.std.proofs.Common.{zero, length, true}
use Rattle.json_patch_document.specs.Document.{Segment, look}
use Rattle.json_patch_document.proofs.Members.{found_first, skips, child_document}
use Rattle.json_patch_merge.specs.Merged.{IsMerged, IsMergedMember}
use Rattle.json_patch_merge.specs.Merged as m
use Rattle.json_patch_merge.proofs.Merges.{merged_is, merged_document, one, unnamed_stays}
use Rattle.json_merge_diff.specs.Leads.{DoesBoth, under}
use Rattle.json_merge_diff.specs.Least.{seen}
use Rattle.json_merge_diff.proofs.Leading.{as_members}

-- ---- a name that a document lacks

abbrev reach : Members → ℕ
reach no_members = 0
reach (member l d ms) = suc (length l + reach ms)

abbrev zeros : ℕ → List ℕ
zeros zero = []
zeros (suc n) = 0 ∷ zeros n

length_zeros : (n : ℕ) → length (zeros n) ≡ n
length_zeros zero = refl
length_zeros (suc n) = let e = length_zeros n in omega arith

absent : (z : List ℕ) (ms : Members) → reach ms ≤ length z → get_member z ms ≡ None
absent z no_members h = refl
absent z (member l d ms) h = skips z l d ms (λ same. let e : length z ≡ length l = ap length same in omega arith) ∙ absent z ms (omega arith)

lacks : (z : List ℕ) (d : Data) → reach (members_of d) ≤ length z → get z d ≡ None
lacks z d h = sym (as_members d z) ∙ absent z (members_of d) h

-- ---- the whole

leaves_object : {d r e : Data} → IsMerged d r e → sight_of e ≡ Sight.object → sight_of r ≡ Sight.object
leaves_object (m.replaces other) h = absurd (other h)
leaves_object (m.by_key named left each) h = named

merged_object : {d r e : Data} → IsMerged d r e → sight_of r ≡ Sight.object → sight_of e ≡ Sight.object
merged_object (m.replaces other) h = absurd (other h)
merged_object (m.by_key named left each) h = left

no_name : (d : Data) (k : List ℕ) → sight_of d ≢ Sight.object → get k d ≡ None
no_name (object ms) k other = absurd (other refl)
no_name d k other = refl

resets_whole : (p q r : Data) → IsDocument p → IsDocument q → sight_of q ≡ Sight.object → sight_of p ≢ Sight.object → DoesBoth p q r → ⊥
resets_whole p q r hp hq named other does =
    let n = reach (members_of q) + reach (members_of r) in
    let z = zeros n in
    let long : length z ≡ n = length_zeros n in
    let d = object (member z (boolean true) no_members) in
    let e = after_merge p q in
    let me : IsMerged p q e = merged_is q p hp hq in
    let all : IsMerged d r e = does d p e (tt, tt, tt) hp (merged_document q p hp hq) (m.replaces other) me in
    let at_z : get z e ≡ get z d = unnamed_stays z (leaves_object all (merged_object me named)) all (lacks z r (omega arith)) in
    let was : get z e ≡ get z p = unnamed_stays z named me (lacks z q (omega arith)) in
    let x : Some (boolean true) ≡ None = sym (found_first z (boolean true) no_members) ∙ sym at_z ∙ was ∙ no_name p z other in cc

-- ---- below a name

along : {was was' named named' left left' : Option Data} → was ≡ was' → named ≡ named' → left ≡ left' → IsMergedMember was' named' left' → IsMergedMember was named left
along {left = left} a b c h = rw (a, b, c) h

at_name : {d p e : Data} (k : List ℕ) → sight_of p ≡ Sight.object → IsMerged d p e → IsMergedMember (get k d) (get k p) (get k e)
at_name k named (m.replaces other) = absurd (other named)
at_name k named (m.by_key _ _ each) = each k

null_after : {d x c : Data} → IsMerged d x c → x ≡ null → c ≡ null
null_after (m.replaces other) is = is
null_after (m.by_key named left each) is = let e : Sight.null ≡ Sight.object = ap sight_of (sym is) ∙ named in cc

chained : {d x y : Data} {v w : Option Data} (c e : Data) → IsDocument c → IsDocument e → ((f : Data) → v ≡ Some f → IsDocument f) → ((f : Data) → w ≡ Some f → IsDocument f) → IsMerged d x c → IsMerged c y e → y ≢ null
    → IsMergedMember (Some d) (Some x) v → IsMergedMember v (Some y) w → w ≡ Some e
chained c e hc he hv hw m1 m2 some m.goes m.goes = absurd (some refl)
chained c e hc he hv hw m1 m2 some (m.merges o1 h1) m.goes = absurd (some refl)
chained {y = y} c e hc he hv hw m1 m2 some m.goes (m.merges {e = f} other h) = ap Some (one e (hw f refl) he h (subst (λ u. IsMerged u y e) (null_after m1 refl) m2))
chained {y = y} c e hc he hv hw m1 m2 some (m.merges {e = g} o1 h1) (m.merges {e = f} o2 h2) =
    let same : g ≡ c = one c (hv g refl) hc h1 m1 in ap Some (one e (hw f refl) he (subst (λ u. IsMerged u y f) same h2) m2)

at_below : (k : List ℕ) (p q r x y : Data) → IsDocument p → IsDocument q → DoesBoth p q r → sight_of p ≡ Sight.object → sight_of q ≡ Sight.object → sight_of r ≡ Sight.object → get k p ≡ Some x → get k q ≡ Some y → y ≢ null
    → (d c e : Data) → IsDocument d → IsDocument c → IsDocument e → IsMerged d x c → IsMerged c y e → IsMergedMember (Some d) (get k r) (Some e)
at_below k p q r x y hp hq does op oq shape isx isy some d c e hd hc he m1 m2 =
    let D = object (member k d no_members) in
    let hD : IsDocument D = (tt, hd, tt) in
    let C = after_merge D p in
    let hC : IsDocument C = merged_document p D hD hp in
    let E = after_merge C q in
    let hE : IsDocument E = merged_document q C hC hq in
    let M1 : IsMerged D p C = merged_is p D hD hp in
    let M2 : IsMerged C q E = merged_is q C hC hq in
    let here : get k D ≡ Some d = found_first k d no_members in
    let is : get k E ≡ Some e =
    chained c e hc he (λ f h. child_document (key k) C f hC h) (λ f h. child_document (key k) E f hE h) m1 m2 some (along (sym here) (sym isx) refl (at_name k op M1)) (along refl (sym isy) refl (at_name k oq M2)) in
    along (sym here) refl (sym is) (at_name k shape (does D C E hD hC hE M1 M2))

shape_of : (p q r : Data) → IsDocument p → IsDocument q → DoesBoth p q r → sight_of q ≡ Sight.object → sight_of r ≡ Sight.object
shape_of p q r hp hq does oq =
    let C = after_merge null p in
    let hC : IsDocument C = merged_document p null tt hp in
    let M2 : IsMerged C q (after_merge C q) = merged_is q C hC hq in
    leaves_object (does null C (after_merge C q) tt hC (merged_document q C hC hq) (merged_is p null tt hp) M2) (merged_object M2 oq)

-- a value that becomes an object is changed by what the patch has there
has_one : {d e : Data} {o : Option Data} → sight_of d ≢ Sight.object → sight_of e ≡ Sight.object → IsMergedMember (Some d) o (Some e) → (s : Data) × (o ≡ Some s)
has_one other left m.stays = absurd (other left)
has_one other left (m.merges {q = q} some h) = (q, refl)

by_it : {d s e : Data} → IsMergedMember (Some d) (Some s) (Some e) → IsMerged d s e
by_it (m.merges some h) = h

pub found_below : (o : Option Data) (R : List Segment) → seen o R ≢ Sight.nothing → (y : Data) × (o ≡ Some y)
found_below None R h = absurd (h refl)
found_below (Some y) R h = (y, refl)

has_names : (d : Data) (k : List ℕ) (y : Data) → get k d ≡ Some y → sight_of d ≡ Sight.object
has_names d k y h = search rules

rooted : (y : Data) (ks : List (List ℕ)) → look y (under ks) ≡ Sight.object → sight_of y ≡ Sight.object
rooted y [] h = h
rooted y (k ∷ ks) h = let f = found_below (get k y) (under ks) (λ none. let e : Sight.nothing ≡ Sight.object = sym none ∙ h in cc) in has_names y k f.0 f.1

pub never : (ks : List (List ℕ)) (p q r : Data) → IsDocument p → IsDocument q → IsDocument r → look q (under ks) ≡ Sight.object → look p (under ks) ≢ Sight.object → look p (under ks) ≢ Sight.nothing → DoesBoth p q r → ⊥
never [] p q r hp hq hr named other some does = resets_whole p q r hp hq named other does
never (k ∷ ks) p q r hp hq hr named other some does =
    let fy = found_below (get k q) (under ks) (λ none. let e : Sight.nothing ≡ Sight.object = sym none ∙ named in cc) in
    let fx = found_below (get k p) (under ks) some in
    let x = fx.0 in
    let y = fy.0 in
    let lx : look x (under ks) ≡ look p (under (k ∷ ks)) = ap (λ o. seen o (under ks)) (sym fx.1) in
    let ly : look y (under ks) ≡ Sight.object = ap (λ o. seen o (under ks)) (sym fy.1) ∙ named in
    let hx : IsDocument x = child_document (key k) p x hp fx.1 in
    let hy : IsDocument y = child_document (key k) q y hq fy.1 in
    let oy : sight_of y ≡ Sight.object = rooted y ks ly in
    let ny : y ≢ null = λ is. (let e : Sight.null ≡ Sight.object = ap sight_of (sym is) ∙ oy in cc) in
    let oq : sight_of q ≡ Sight.object = has_names q k y fy.1 in
    let step = at_below k p q r x y hp hq does (has_names p k x fx.1) oq (shape_of p q r hp hq does oq) fx.1 fy.1 ny in
    let c = after_merge (boolean true) x in
    let hc : IsDocument c = merged_document x (boolean true) tt hx in
    let me : IsMerged c y (after_merge c y) = merged_is y c hc hy in
    let s = has_one (λ h. cc) (merged_object me oy) (step (boolean true) c (after_merge c y) tt hc (merged_document y c hc hy) (merged_is x (boolean true) tt hx) me) in
    never ks x y s.0 hx hy (child_document (key k) r s.0 hr s.1) ly (λ h. other (sym lx ∙ h)) (λ h. some (sym lx ∙ h))
    (λ d c e hd hc he m1 m2. by_it (along refl (sym s.1) refl (step d c e hd hc he m1 m2)))
