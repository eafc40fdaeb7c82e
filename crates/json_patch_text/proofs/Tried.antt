-- A patch that was made of a text within some levels is never too deep there: what operations make says one tree, so it nests one way.
use Rattle.std.proofs.Common.{◌≡◌, ◌≤◌, ℕ, zero, suc, List, [], ◌∷◌, take, Option, Some, option_and_then, refl, sym, ap, ap₂, ◌∙◌, subst, arith}
use Rattle.std.proofs.lemmas.Option.{same_Some}
use Rattle.json.specs.Json.{Json, max_depth}
use Rattle.json.specs.Tree.{depth}
use Rattle.json_lexemes.specs.Skipped.{nesting}
use Rattle.json_lexemes.specs.Spelled.{Says}
use Rattle.json_lexemes.proofs.Nests.{nests, one_tree}
use Rattle.json_patch_limits.specs.declared.limits.Limits.{Limits}
use Rattle.json_patch_text.specs.Changed.{added, removed}
use Rattle.json_patch_text.specs.Made.{AreMadeIn, IsMadeIn}
use Rattle.json_patch_text.specs.Operations.{TreeOperation, add, remove, replace, move, copy, test}
use Rattle.json_patch_text.specs.Shallow.{IsNeverTooDeep, KeepsWithin}
use Rattle.json_patch_text.specs.TextOperations.{AreWrittenAs, IsWrittenAs}
use Rattle.json_patch_text.specs.Within.{AreMadeAtCost, IsPatchedWithin, most_bytes}
use Rattle.json_patch_text.specs.declared.operation.TextOperation.{TextOperation}
use Rattle.json_patch_text.specs.declared.operation.TextOperation.TheVariants.{Add, Remove, Replace, Move, Copy, Test}
use Rattle.json_patch_text.proofs.Agree.{removed_tree}
use Rattle.json_patch_text.proofs.Made.{add_left}
use Rattle.json_patch_text.proofs.Patches.{one_patch}
use Rattle.json_patch_text.proofs.Shallow.{never_kept}
use Rattle.json_text.specs.Pointed.{put_at, tree_at}

-- ---- what is made says one tree

-- what an operation that is made leaves of a tree
abbrev after : Json → TreeOperation → Option Json
after i (add P w) = added P w i
after i (remove P) = removed P i
after i (replace P w) = Some (put_at P w i)
after i (move F P) = option_and_then (λ v. option_and_then (λ m. added P v m) (removed F i)) (tree_at F i)
after i (copy F P) = option_and_then (λ v. added P v i) (tree_at F i)
after i (test P w) = Some i

abbrev after_all : Json → List TreeOperation → Option Json
after_all i [] = Some i
after_all i (op ∷ ops) = option_and_then (λ m. after_all m ops) (after i op)

made_says : (o : TextOperation) (op : TreeOperation) (text next : List ℕ) (i : Json) → IsWrittenAs o op → Says text i → IsMadeIn text o next → (j : Json) × (after i op ≡ Some j) × Says next j
made_says (Add P s) (add Q w) text next i (same, ((says, low), tight)) said made =
    let (j, is, left) = add_left text s.now next P i w said says made in
    (j, ap (λ R. added R w i) (sym same) ∙ is, left)
made_says (Remove P) (remove Q) text next i same said made =
    let (j, is, left, less) = removed_tree text P next i said made in
    (j, ap (λ R. removed R i) (sym same) ∙ is, left)
made_says (Replace P s) (replace Q w) text next i (same, ((says, low), tight)) said made =
    let here : made.tree ≡ i = one_tree text made.tree i made.says.0 said in
    let put : made.wanted ≡ w = one_tree s.now made.wanted w made.value_says.0 says in
    (put_at P made.wanted made.tree, ap₂ (λ x y. Some (put_at Q x y)) (sym put) (sym here) ∙ ap (λ R. Some (put_at R made.wanted made.tree)) (sym same), made.after)
made_says (Move F P) (move G Q) text next i (from, same) said (j, s, less, also, (before, behind, whole, (v, at, stands)), cut, put) =
    let there : tree_at G i ≡ Some v = ap₂ (λ R x. tree_at R x) (sym from) (sym (one_tree text j i also said)) ∙ at in
    let (m, gone, less_says, lower) = removed_tree text F less i said cut in
    let (k, is, left) = add_left less s next P m v less_says stands.says put in
    (k, ap (option_and_then (λ v. option_and_then (λ m. added Q v m) (removed G i))) there ∙ ap (option_and_then (λ m. added Q v m)) (ap (λ R. removed R i) (sym from) ∙ gone) ∙ ap (λ R. added R v m) (sym same) ∙ is, left)
made_says (Copy F P) (copy G Q) text next i (from, same) said (j, s, also, (before, behind, whole, (v, at, stands)), put) =
    let there : tree_at G i ≡ Some v = ap₂ (λ R x. tree_at R x) (sym from) (sym (one_tree text j i also said)) ∙ at in
    let (k, is, left) = add_left text s next P i v said stands.says put in
    (k, ap (option_and_then (λ v. added Q v i)) there ∙ ap (λ R. added R v i) (sym same) ∙ is, left)
made_says (Test P s) (test Q w) text next i written said made = (i, refl, subst (λ t. Says t i) (sym made) said)
made_says o op text next i written said made = absurd written

all_say : (os : List TextOperation) (ops : List TreeOperation) (k : ℕ) (text left : List ℕ) (i : Json) → AreWrittenAs os ops → Says text i → AreMadeIn text (take k os) left → (j : Json) × (after_all i (take k ops) ≡ Some j) × Says left j
all_say [] [] zero text left i written said made = (i, refl, subst (λ t. Says t i) (sym made) said)
all_say [] [] (suc k) text left i written said made = (i, refl, subst (λ t. Says t i) (sym made) said)
all_say (o ∷ os) (op ∷ ops) zero text left i written said made = (i, refl, subst (λ t. Says t i) (sym made) said)
all_say (o ∷ os) (op ∷ ops) (suc k) text left i written said (next, m, rest) =
    let (n, is, says) = made_says o op text next i written.0 said m in
    let (j, ends, left_says) = all_say os ops k next left n written.1 says rest in
    (j, ap (option_and_then (λ x. after_all x (take k ops))) is ∙ ends, left_says)
all_say os ops k text left i written said made = absurd written

-- ---- what was made within the levels tells of all that can be made

-- the first k operations of a list that was
front : (l : Limits) (most k : ℕ) (text new : List ℕ) (os : List TextOperation) (n : ℕ) → AreMadeAtCost l most text os new n → (left : List ℕ) × AreMadeIn text (take k os) left × (nesting left ≤ l.depth)
front l most zero text new [] n h = (text, refl, h.0.0)
front l most (suc k) text new [] n h = (text, refl, h.0.0)
front l most zero text new (o ∷ os) n h = (text, refl, h.0.0)
front l most (suc k) text new (o ∷ os) n (w, (next, m, rest, made, copied, further, sum)) =
    let (left, first, low) = front l most k next new os rest further in
    (left, (next, made, first), low)

keeps : (l : Limits) (n : ℕ) (text patch new : List ℕ) (i : Json) → Says text i → IsPatchedWithin l text patch new → l.depth ≤ n → KeepsWithin n text patch
keeps l n text patch new i said (tried, copied, (ops, says, written, places), within) le os k left (others, also, reads, there) made =
    let (x, x_made, low) = front l (most_bytes l text patch) k text new tried copied within.0 in
    let (a, a_is, a_says) = all_say tried ops k text x i written said x_made in
    let (b, b_is, b_says) = all_say os others k text left i reads said made in
    let e : others ≡ ops = one_patch patch ops others says also in
    let same : b ≡ a = same_Some b a (sym b_is ∙ ap (λ y. after_all i (take k y)) e ∙ a_is) in
    let deep : nesting left ≡ nesting x = nests left b b_says ∙ ap depth same ∙ sym (nests x a a_says) in
    omega (arith, deep, low, le)

pub never_tried : (l : Limits) (n : ℕ) (text patch new : List ℕ) (i : Json) → Says text i → IsPatchedWithin l text patch new → l.depth ≤ n → n ≤ max_depth → IsNeverTooDeep n text patch
never_tried l n text patch new i said tried low le = never_kept n text patch (keeps l n text patch new i said tried low) le
