-- Documents with equal children are equal, and what a change to a child leaves is taken back by another.
use Rattle.json_patch_document.proofs.Common.{◌≡◌, ℕ, zero, suc, ◌≤◌, List, [], ◌∷◌, ⊎_elim, Some, None, option_and_then, refl, sym, ap, ◌∙◌, arith, rules, Data, object, Items, item, Members, put, get_member, get_item, get_member-put, get_member-put_other, IsDocument, AreMembers, Segment, key, place, child, look, sight, sight_of, value_at, segment_of, set_child, insert_item, remove_item, without, items_len}
use Rattle.json_patch_document.proofs.Members.{put_members, without_members, get_without, get_without_other, child_document, child_set, child_set_other, sight_set, set_document, step_cases}
use Rattle.json_patch_document.proofs.Alike.{alike}

same_at : (e f : Data) → sight_of e ≡ sight_of f → ((r : Segment) → child r e ≡ child r f) → (L : List Segment) → look e L ≡ look f L
same_at e f kind children [] = kind
same_at e f kind children (s ∷ L) = ap (λ o. sight (option_and_then (λ x. value_at x L) o)) (children s)

pub one_level : (e f : Data) → IsDocument e → IsDocument f → sight_of e ≡ sight_of f → ((r : Segment) → child r e ≡ child r f) → e ≡ f
one_level e f he hf kind children = alike e f he hf (same_at e f kind children)

pub set_back : (s : Segment) (d c b : Data) → IsDocument d → IsDocument b → child s d ≡ Some c → set_child s c (set_child s b d) ≡ d
set_back s d c b hd hb is =
    let h : IsDocument (set_child s b d) = set_document s d b hd hb in
    one_level (set_child s c (set_child s b d)) d (set_document s (set_child s b d) c h (child_document s d c hd is)) hd (sight_set s (set_child s b d) c ∙ sight_set s d b)
    (λ r. ⊎_elim (λ (same : r ≡ s). rw same (child_set s (set_child s b d) b c (child_set s d c b is) ∙ sym is))
    (λ (other : r ≡ s → ⊥). child_set_other r s (set_child s b d) c other ∙ child_set_other r s d b other) (step_cases r s))

pub step_of_set : (s : Segment) (d b : Data) (t : List ℕ) → segment_of (set_child s b d) t ≡ segment_of d t
step_of_set s d b t = search rules

-- ---- a member

member_cases : (P : Segment → Type 0) (k : List ℕ) → ((q : List ℕ) → (q ≡ k → ⊥) → P (key q)) → P (key k) → ((i : ℕ) → P (place i)) → (r : Segment) → P r
member_cases P k other here row (key q) = search (rules, step_cases (key q) (key k), step_cases)
member_cases P k other here row (place i) = row i

pub without_put : (k : List ℕ) (v : Data) (ms : Members) → AreMembers ms → IsDocument v → get_member k ms ≡ None → object (without k (put k v ms)) ≡ object ms
without_put k v ms h hv is = search (rules, one_level, without_members, put_members, member_cases, get_without_other, get_member-put_other, get_without)

pub put_without : (k : List ℕ) (w : Data) (ms : Members) → AreMembers ms → get_member k ms ≡ Some w → object (put k w (without k ms)) ≡ object ms
put_without k w ms h is =
    one_level (object (put k w (without k ms))) (object ms) (put_members k w (without k ms) (without_members k ms h) (child_document (key k) (object ms) w h is)) h refl
    (member_cases (λ r. child r (object (put k w (without k ms))) ≡ child r (object ms)) k
    (λ q other. get_member-put_other q k w (without k ms) other ∙ get_without_other q k ms other)
    (get_member-put k w (without k ms) ∙ sym is) (λ i. refl))

-- ---- an element

pub remove_insert : (i : ℕ) (v : Data) (ds : Items) → i ≤ items_len ds → remove_item i (insert_item i v ds) ≡ ds
remove_insert zero v (item d ds) h = refl
remove_insert (suc i) v (item d ds) h = ap (item d) (remove_insert i v ds (omega arith))
remove_insert i v ds h = search rules

pub insert_remove : (i : ℕ) (w : Data) (ds : Items) → get_item i ds ≡ Some w → insert_item i w (remove_item i ds) ≡ ds
insert_remove zero w (item d (item e ds)) is = let e : d ≡ w = cc in cc
insert_remove (suc i) w (item d ds) is = ap (item d) (insert_remove i w ds is)
insert_remove i w ds is = search rules

pub within_removed : (i : ℕ) (w : Data) (ds : Items) → get_item i ds ≡ Some w → i ≤ items_len (remove_item i ds)
within_removed (suc i) w (item d ds) is = let h : i ≤ items_len (remove_item i ds) = within_removed i w ds is in omega arith
within_removed i w ds is = search rules
