-- What a composed merge patch does, and that none does it where the first resets what the second changes.
use Rattle.json_patch_merge.proofs.Common.{◌≡◌, ◌≢◌, Option, Some, None, refl, sym, ap, ◌∙◌, subst}
use Rattle.json_patch_merge.proofs.Common.{Data, null, sight_of, Sight}
use Rattle.json_patch_merge.specs.Merged.{IsMerged, IsMergedMember}
use Rattle.json_patch_merge.specs.Merged as m
use Rattle.json_merge_diff.specs.Composed.{IsComposed, IsComposedMember, replaces, by_key, first, second, both}

-- ---- it does both

still : {p q r : Data} → IsComposed p q r → q ≢ null → r ≢ null
still (replaces other) h = h
still (by_key one then shape each) h = λ is. let e : Sight.null ≡ Sight.object = ap sight_of (sym is) ∙ shape in cc

ends_null : {p q r : Data} → IsComposed p q r → q ≡ null → r ≡ null
ends_null (replaces other) is = is
ends_null (by_key one then shape each) is = let e : Sight.null ≡ Sight.object = ap sight_of (sym is) ∙ then in cc

after_null : {p q r d c e : Data} → p ≡ null → IsComposed p q r → IsMerged c q e → IsMerged d r e
after_null is (replaces other) (m.replaces _) = m.replaces other
after_null is (replaces other) (m.by_key named left each) = absurd (other named)
after_null is (by_key one then shape each) h = let e : Sight.null ≡ Sight.object = ap sight_of (sym is) ∙ one in cc

mutual
  pub does : {p q r d c e : Data} → IsComposed p q r → IsMerged d p c → IsMerged c q e → IsMerged d r e
  does (replaces other) h (m.replaces _) = m.replaces other
  does (replaces other) h (m.by_key named left each) = absurd (other named)
  does (by_key one then shape each) (m.replaces other) h = absurd (other one)
  does (by_key one then shape each) (m.by_key _ _ _) (m.replaces other) = absurd (other then)
  does (by_key one then shape each) (m.by_key _ _ each1) (m.by_key _ left each2) = m.by_key shape left (λ k. does_at (each k) (each1 k) (each2 k))

  does_at : {a b o u v w : Option Data} → IsComposedMember a b o → IsMergedMember u a v → IsMergedMember v b w → IsMergedMember u o w
  does_at first h m.stays = h
  does_at second m.stays h = h
  does_at {u = u} (both x) h m.goes = subst (λ r. IsMergedMember u (Some r) None) (sym (ends_null x refl)) m.goes
  does_at (both x) m.goes (m.merges other h) = m.merges (still x other) (after_null refl x h)
  does_at (both x) (m.merges _ h1) (m.merges other h2) = m.merges (still x other) (does x h1 h2)
