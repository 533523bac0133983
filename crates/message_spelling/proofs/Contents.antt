-- Reading what messages say, with their moves, is right.
use Rattle.std.proofs.Common.{◌≡◌, ℕ, zero, suc, ◌≤◌, true, List, Ok, refl, sym, ◌∙◌, ap, arith}
use Rattle.std.specs.Prelude.{◌==◌}
use Rattle.std.proofs.lemmas.Bool.{and_parts, eqb-true}
use Rattle.base_types.specs.declared.ids.FilesetId.{FilesetId}
use Rattle.base_types.specs.declared.ids.ServerId.{ServerId}
use Rattle.tree_calls.specs.declared.ship.ShipPart.{ShipPart}
use Rattle.message_types.specs.declared.asking.Change.{Change as ChangeOf}
use Rattle.message_types.specs.declared.asking.Fetch.{Fetch as FetchOf}
use Rattle.message_types.specs.declared.giving.AppliedGive.{AppliedGive}
use Rattle.message_types.specs.declared.giving.Give.{Give}
use Rattle.message_types.specs.declared.giving.Reclaim.{Reclaim as ReclaimOf}
use Rattle.message_types.specs.declared.giving.Reclaimed.{Reclaimed as ReclaimedOf}
use Rattle.message_types.specs.declared.moving.Shipped.{Shipped as ShippedOf}
use Rattle.message_types.specs.declared.telling.Done.{Done as DoneOf}
use Rattle.message_types.specs.declared.telling.Grant.{Grant as GrantOf}
use Rattle.message_types.specs.declared.tokens.Named.{Named}
use Rattle.message_types.specs.declared.tokens.Revoke.{Revoke as RevokeOf}
use Rattle.message_types.specs.declared.message.Body.{Body}
use Rattle.message_types.specs.declared.message.Body.TheVariants.{Hello, Fetch, Grant, Change, Done, Revoke, Returned, Kept, GiveBack, Gone, Reclaim, Reclaimed, Restarted, Down, Bye, NotHere, Ship, Shipped}
use Rattle.message_parts.specs.Spelled.{Spelled, ◌&◌}
use Rattle.message_parts.specs.Reading.{Reading, ◌>>=◌}
use Rattle.message_parts.specs.Words.{spell_u32, u32_at, spell_u64, u64_at, spell_server, server_at, spell_fileset, fileset_at}
use Rattle.message_spelling.specs.Bodies.{spell_fetch, spell_grant, spell_change, spell_done, spell_revoke, spell_named, spell_give, spell_gone, spell_reclaim, spell_reclaimed, spell_part, spell_shipped, body_tag, unmoved, body_fields}
use Rattle.message_spelling.specs.Readings.{fetch_at, grant_at, change_at, done_at, revoke_at, named_at, give_at, gone_at, reclaim_at, reclaimed_at, part_at, shipped_at, with_moves_at, moved_at, unmoved_at, not_here_at, ship_at, body_of}
use Rattle.message_parts.proofs.More.{more_right}
use Rattle.message_parts.proofs.Parts.{moved, end_right, last_right, mapped}
use Rattle.message_parts.proofs.Right.{Right, Any, same, IsRight}
use Rattle.message_parts.proofs.Words.{u32_right, u64_right, variant_right, server_right, fileset_right}
use Rattle.message_spelling.proofs.Requested.{fetch_right, change_right, revoke_right, named_right, give_right, gone_right, reclaim_right, reclaimed_right}
use Rattle.message_spelling.proofs.Answered.{grant_right, done_right}
use Rattle.message_spelling.proofs.Shipments.{part_right, shipped_right}

-- the moves and the body of a message
abbrev pub Told : Type 0
Told = ℕ × Body

abbrev pub told_fields : Told → Spelled
told_fields p = body_fields p.0 p.1

abbrev pub of_kind : ℕ → Told → Type 0
of_kind kind p = Any p × (body_tag p.1 ≡ kind)

-- a body of one kind holds one value; its moves stand behind it, or there are none
module _ {X : Type 0} (kind : ℕ) (body : X → Body) (one : X → Spelled) (read : List ℕ → Reading X) (right : IsRight one read)
    (is : (x : X) → body_tag (body x) ≡ kind) (of : (b : Body) → body_tag b ≡ kind → (x : X) × (body x ≡ b)) where
  abbrev pub told : ℕ → X → Told
  told moves x = (moves, body x)

  module _ (fields : (moves : ℕ) (x : X) → body_fields moves (body x) ≡ (one x & spell_u32 moves)) where
    abbrev pub with_moves : X × ℕ → Spelled
    with_moves t = one t.0 & spell_u32 t.1

    abbrev pub made_moved : X × ℕ → Told
    made_moved t = told t.1 t.0

    moved_parts : Right Any with_moves made_moved (moved_at read body)
    moved_parts = more_right (λ (t : X × ℕ). Any t) one (λ t. spell_u32 t.1) (λ t. t.0) made_moved read (λ x rest. with_moves_at (body x) rest) right
        (λ x f. last_right (λ (t : X × ℕ). Any t × (t.0 ≡ x)) Any spell_u32 (λ t. t.1) made_moved (λ m. told m x) u32_at
        (λ m any. ((x, m), (tt, refl), refl)) (λ t c. (tt, ap (λ v. told t.1 v) (sym c.1))) u32_right)

    pub moved_right : Right (of_kind kind) told_fields same (moved_at read body)
    moved_right = moved Any with_moves made_moved (of_kind kind) told_fields same (moved_at read body)
        (λ t bytes s. (made_moved t, record { chosen = (tt, is t.0); fits = ap (λ v. v.fits) (fields t.1 t.0) ∙ s.fits; whole = s.whole ∙ ap (λ v. v.bytes) (sym (fields t.1 t.0)) }, refl))
        (λ p bytes s.
        let (x, e) = of p.1 s.chosen.1 in
        let w : told_fields p ≡ with_moves (x, p.0) = ap (λ v. body_fields p.0 v) (sym e) ∙ fields p.0 x in
        ((x, p.0), record { chosen = tt; fits = ap (λ v. v.fits) (sym w) ∙ s.fits; whole = s.whole ∙ ap (λ v. v.bytes) w }, ap (λ v. (p.0, v)) e))
        moved_parts

  module _ (fields : (moves : ℕ) (x : X) → body_fields moves (body x) ≡ (unmoved moves & one x)) where
    pub unmoved_right : Right (of_kind kind) told_fields same (unmoved_at read body)
    unmoved_right = moved Any one (told 0) (of_kind kind) told_fields same (unmoved_at read body)
        (λ x bytes s. (told 0 x, record { chosen = (tt, is x); fits = ap (λ v. v.fits) (fields 0 x) ∙ s.fits; whole = s.whole ∙ ap (λ v. v.bytes) (sym (fields 0 x)) }, refl))
        (λ p bytes s.
        let (x, e) = of p.1 s.chosen.1 in
        let w : told_fields p ≡ (unmoved p.0 & one x) = ap (λ v. body_fields p.0 v) (sym e) ∙ fields p.0 x in
        let f : (unmoved p.0 & one x).fits ≡ true = ap (λ v. v.fits) (sym w) ∙ s.fits in
        let q = and_parts (p.0 == 0) (one x).fits f in
        let z : p.0 ≡ 0 = eqb-true p.0 0 q.0 in
        (x, record { chosen = tt; fits = q.1; whole = s.whole ∙ ap (λ v. v.bytes) w }, ap (λ v. (0, v)) e ∙ ap (λ v. (v, p.1)) (sym z)))
        (mapped Any one same (told 0) read right)

-- a body that says nothing
module _ (kind : ℕ) (body : Body) (is : body_tag body ≡ kind) (of : (b : Body) → body_tag b ≡ kind → body ≡ b)
    (fields : (moves : ℕ) → body_fields moves body ≡ unmoved moves) where
  pub empty_right : Right (of_kind kind) told_fields same (λ rest. Ok ((0, body), rest))
  empty_right = end_right (of_kind kind) told_fields same (0, body) (0, body) (tt, is) (ap (λ v. v.fits) (fields 0))
      (λ p c f.
      let e : body ≡ p.1 = of p.1 c.1 in
      let w : told_fields p ≡ unmoved p.0 = ap (λ v. body_fields p.0 v) (sym e) ∙ fields p.0 in
      let z : p.0 ≡ 0 = eqb-true p.0 0 (ap (λ v. v.fits) (sym w) ∙ f) in
      (ap (λ v. (v, p.1)) z ∙ ap (λ v. (0, v)) (sym e), ap (λ v. v.bytes) w))

is_hello : (b : Body) → body_tag b ≡ 1 → Hello ≡ b
is_hello Hello e = refl
is_hello _ e = absurd (omega (arith, e))

is_restarted : (b : Body) → body_tag b ≡ 13 → Restarted ≡ b
is_restarted Restarted e = refl
is_restarted _ e = absurd (omega (arith, e))

is_down : (b : Body) → body_tag b ≡ 14 → Down ≡ b
is_down Down e = refl
is_down _ e = absurd (omega (arith, e))

is_bye : (b : Body) → body_tag b ≡ 15 → Bye ≡ b
is_bye Bye e = refl
is_bye _ e = absurd (omega (arith, e))

is_fetch : (b : Body) → body_tag b ≡ 2 → (x : FetchOf) × (Fetch x ≡ b)
is_fetch (Fetch x) e = (x, refl)
is_fetch _ e = absurd (omega (arith, e))

is_grant : (b : Body) → body_tag b ≡ 3 → (x : GrantOf) × (Grant x ≡ b)
is_grant (Grant x) e = (x, refl)
is_grant _ e = absurd (omega (arith, e))

is_change : (b : Body) → body_tag b ≡ 4 → (x : ChangeOf) × (Change x ≡ b)
is_change (Change x) e = (x, refl)
is_change _ e = absurd (omega (arith, e))

is_done : (b : Body) → body_tag b ≡ 5 → (x : DoneOf) × (Done x ≡ b)
is_done (Done x) e = (x, refl)
is_done _ e = absurd (omega (arith, e))

is_revoke : (b : Body) → body_tag b ≡ 6 → (x : RevokeOf) × (Revoke x ≡ b)
is_revoke (Revoke x) e = (x, refl)
is_revoke _ e = absurd (omega (arith, e))

is_returned : (b : Body) → body_tag b ≡ 7 → (x : Named) × (Returned x ≡ b)
is_returned (Returned x) e = (x, refl)
is_returned _ e = absurd (omega (arith, e))

is_kept : (b : Body) → body_tag b ≡ 8 → (x : Named) × (Kept x ≡ b)
is_kept (Kept x) e = (x, refl)
is_kept _ e = absurd (omega (arith, e))

is_give_back : (b : Body) → body_tag b ≡ 9 → (x : Give) × (GiveBack x ≡ b)
is_give_back (GiveBack x) e = (x, refl)
is_give_back _ e = absurd (omega (arith, e))

is_gone : (b : Body) → body_tag b ≡ 10 → (x : AppliedGive) × (Gone x ≡ b)
is_gone (Gone x) e = (x, refl)
is_gone _ e = absurd (omega (arith, e))

is_reclaim : (b : Body) → body_tag b ≡ 11 → (x : ReclaimOf) × (Reclaim x ≡ b)
is_reclaim (Reclaim x) e = (x, refl)
is_reclaim _ e = absurd (omega (arith, e))

is_reclaimed : (b : Body) → body_tag b ≡ 12 → (x : ReclaimedOf) × (Reclaimed x ≡ b)
is_reclaimed (Reclaimed x) e = (x, refl)
is_reclaimed _ e = absurd (omega (arith, e))

is_shipped : (b : Body) → body_tag b ≡ 18 → (x : ShippedOf) × (Shipped x ≡ b)
is_shipped (Shipped x) e = (x, refl)
is_shipped _ e = absurd (omega (arith, e))

abbrev pub made_not_here : (FilesetId × ℕ × ServerId) → Told
made_not_here t = (t.1, NotHere (record { fileset = t.0; to = t.2 }))

pub not_here_parts : Right Any (λ t. told_fields (made_not_here t)) made_not_here not_here_at
unfolding body_fields not_here_at
not_here_parts =
    more_right (λ (t : (FilesetId × ℕ × ServerId)). Any t) spell_fileset (λ t. spell_u32 t.1 & spell_server t.2) (λ t. t.0) made_not_here fileset_at
    (λ a0 rest. u32_at rest >>= λ a1 rest. server_at rest >>= λ a2 rest. Ok ((a1, NotHere (record { fileset = a0; to = a2 })), rest)) fileset_right
    (λ a0 f0. more_right (λ (t : (FilesetId × ℕ × ServerId)). (Any t × (t.0 ≡ a0))) spell_u32 (λ t. spell_server t.2) (λ t. t.1) made_not_here u32_at
    (λ a1 rest. server_at rest >>= λ a2 rest. Ok ((a1, NotHere (record { fileset = a0; to = a2 })), rest)) u32_right
    (λ a1 f1. last_right (λ (t : (FilesetId × ℕ × ServerId)). ((Any t × (t.0 ≡ a0)) × (t.1 ≡ a1))) Any spell_server (λ t. t.2) made_not_here (λ z. (a1, NotHere (record { fileset = a0; to = z }))) server_at
    (λ z any. ((a0, a1, z), ((tt, refl), refl), refl)) (λ t c. (tt, cc)) server_right))

is_not_here : (moves : ℕ) (b : Body) → body_tag b ≡ 16 → (t : (FilesetId × ℕ × ServerId)) × (made_not_here t ≡ (moves, b))
is_not_here moves (NotHere x) e = ((x.fileset, moves, x.to), refl)
is_not_here moves _ e = absurd (omega (arith, e))

abbrev pub made_ship : (ServerId × ℕ × FilesetId × ℕ × ℕ × ShipPart) → Told
made_ship t = (t.3, Ship (record { to = t.0; ship = t.1; fileset = t.2; at = t.4; part = t.5 }))

pub ship_parts : Right Any (λ t. told_fields (made_ship t)) made_ship ship_at
unfolding body_fields ship_at
ship_parts =
    more_right (λ (t : (ServerId × ℕ × FilesetId × ℕ × ℕ × ShipPart)). Any t) spell_server (λ t. spell_u64 t.1 & spell_fileset t.2 & spell_u32 t.3 & spell_u32 t.4 & spell_part t.5) (λ t. t.0) made_ship server_at
    (λ a0 rest. u64_at rest >>= λ a1 rest. fileset_at rest >>= λ a2 rest. u32_at rest >>= λ a3 rest. u32_at rest >>= λ a4 rest. part_at rest >>= λ a5 rest. Ok ((a3, Ship (record { to = a0; ship = a1; fileset = a2; at = a4; part = a5 })), rest)) server_right
    (λ a0 f0. more_right (λ (t : (ServerId × ℕ × FilesetId × ℕ × ℕ × ShipPart)). (Any t × (t.0 ≡ a0))) spell_u64 (λ t. spell_fileset t.2 & spell_u32 t.3 & spell_u32 t.4 & spell_part t.5) (λ t. t.1) made_ship u64_at
    (λ a1 rest. fileset_at rest >>= λ a2 rest. u32_at rest >>= λ a3 rest. u32_at rest >>= λ a4 rest. part_at rest >>= λ a5 rest. Ok ((a3, Ship (record { to = a0; ship = a1; fileset = a2; at = a4; part = a5 })), rest)) u64_right
    (λ a1 f1. more_right (λ (t : (ServerId × ℕ × FilesetId × ℕ × ℕ × ShipPart)). ((Any t × (t.0 ≡ a0)) × (t.1 ≡ a1))) spell_fileset (λ t. spell_u32 t.3 & spell_u32 t.4 & spell_part t.5) (λ t. t.2) made_ship fileset_at
    (λ a2 rest. u32_at rest >>= λ a3 rest. u32_at rest >>= λ a4 rest. part_at rest >>= λ a5 rest. Ok ((a3, Ship (record { to = a0; ship = a1; fileset = a2; at = a4; part = a5 })), rest)) fileset_right
    (λ a2 f2. more_right (λ (t : (ServerId × ℕ × FilesetId × ℕ × ℕ × ShipPart)). (((Any t × (t.0 ≡ a0)) × (t.1 ≡ a1)) × (t.2 ≡ a2))) spell_u32 (λ t. spell_u32 t.4 & spell_part t.5) (λ t. t.3) made_ship u32_at
    (λ a3 rest. u32_at rest >>= λ a4 rest. part_at rest >>= λ a5 rest. Ok ((a3, Ship (record { to = a0; ship = a1; fileset = a2; at = a4; part = a5 })), rest)) u32_right
    (λ a3 f3. more_right (λ (t : (ServerId × ℕ × FilesetId × ℕ × ℕ × ShipPart)). ((((Any t × (t.0 ≡ a0)) × (t.1 ≡ a1)) × (t.2 ≡ a2)) × (t.3 ≡ a3))) spell_u32 (λ t. spell_part t.5) (λ t. t.4) made_ship u32_at
    (λ a4 rest. part_at rest >>= λ a5 rest. Ok ((a3, Ship (record { to = a0; ship = a1; fileset = a2; at = a4; part = a5 })), rest)) u32_right
    (λ a4 f4. last_right (λ (t : (ServerId × ℕ × FilesetId × ℕ × ℕ × ShipPart)). (((((Any t × (t.0 ≡ a0)) × (t.1 ≡ a1)) × (t.2 ≡ a2)) × (t.3 ≡ a3)) × (t.4 ≡ a4))) Any spell_part (λ t. t.5) made_ship (λ z. (a3, Ship (record { to = a0; ship = a1; fileset = a2; at = a4; part = z }))) part_at
    (λ z any. ((a0, a1, a2, a3, a4, z), (((((tt, refl), refl), refl), refl), refl), refl)) (λ t c. (tt, cc)) part_right)))))

is_ship : (moves : ℕ) (b : Body) → body_tag b ≡ 17 → (t : (ServerId × ℕ × FilesetId × ℕ × ℕ × ShipPart)) × (made_ship t ≡ (moves, b))
is_ship moves (Ship x) e = ((x.to, x.ship, x.fileset, moves, x.at, x.part), refl)
is_ship moves _ e = absurd (omega (arith, e))

pub body_rest : (tag : ℕ) → 1 ≤ tag → tag ≤ 18 → Right (of_kind tag) told_fields same (body_of tag)
unfolding body_of body_fields
body_rest zero l h = absurd (omega (arith, l))
body_rest (suc zero) l h = empty_right 1 Hello refl is_hello (λ m. refl)
body_rest (suc (suc zero)) l h = moved_right 2 Fetch spell_fetch fetch_at fetch_right (λ x. refl) is_fetch (λ m x. refl)
body_rest (suc (suc (suc zero))) l h = moved_right 3 Grant spell_grant grant_at grant_right (λ x. refl) is_grant (λ m x. refl)
body_rest (suc (suc (suc (suc zero)))) l h = moved_right 4 Change spell_change change_at change_right (λ x. refl) is_change (λ m x. refl)
body_rest (suc (suc (suc (suc (suc zero))))) l h = moved_right 5 Done spell_done done_at done_right (λ x. refl) is_done (λ m x. refl)
body_rest (suc (suc (suc (suc (suc (suc zero)))))) l h = moved_right 6 Revoke spell_revoke revoke_at revoke_right (λ x. refl) is_revoke (λ m x. refl)
body_rest (suc (suc (suc (suc (suc (suc (suc zero))))))) l h = moved_right 7 Returned spell_named named_at named_right (λ x. refl) is_returned (λ m x. refl)
body_rest (suc (suc (suc (suc (suc (suc (suc (suc zero)))))))) l h = moved_right 8 Kept spell_named named_at named_right (λ x. refl) is_kept (λ m x. refl)
body_rest (suc (suc (suc (suc (suc (suc (suc (suc (suc zero))))))))) l h = moved_right 9 GiveBack spell_give give_at give_right (λ x. refl) is_give_back (λ m x. refl)
body_rest (suc (suc (suc (suc (suc (suc (suc (suc (suc (suc zero)))))))))) l h = moved_right 10 Gone spell_gone gone_at gone_right (λ x. refl) is_gone (λ m x. refl)
body_rest (suc (suc (suc (suc (suc (suc (suc (suc (suc (suc (suc zero))))))))))) l h = unmoved_right 11 Reclaim spell_reclaim reclaim_at reclaim_right (λ x. refl) is_reclaim (λ m x. refl)
body_rest (suc (suc (suc (suc (suc (suc (suc (suc (suc (suc (suc (suc zero)))))))))))) l h = unmoved_right 12 Reclaimed spell_reclaimed reclaimed_at reclaimed_right (λ x. refl) is_reclaimed (λ m x. refl)
body_rest (suc (suc (suc (suc (suc (suc (suc (suc (suc (suc (suc (suc (suc zero))))))))))))) l h = empty_right 13 Restarted refl is_restarted (λ m. refl)
body_rest (suc (suc (suc (suc (suc (suc (suc (suc (suc (suc (suc (suc (suc (suc zero)))))))))))))) l h = empty_right 14 Down refl is_down (λ m. refl)
body_rest (suc (suc (suc (suc (suc (suc (suc (suc (suc (suc (suc (suc (suc (suc (suc zero))))))))))))))) l h = empty_right 15 Bye refl is_bye (λ m. refl)
body_rest (suc (suc (suc (suc (suc (suc (suc (suc (suc (suc (suc (suc (suc (suc (suc (suc zero)))))))))))))))) l h = variant_right (of_kind 16) told_fields made_not_here not_here_at (λ t. (tt, refl)) (λ p c. is_not_here p.0 p.1 c.1) not_here_parts
body_rest (suc (suc (suc (suc (suc (suc (suc (suc (suc (suc (suc (suc (suc (suc (suc (suc (suc zero))))))))))))))))) l h = variant_right (of_kind 17) told_fields made_ship ship_at (λ t. (tt, refl)) (λ p c. is_ship p.0 p.1 c.1) ship_parts
body_rest (suc (suc (suc (suc (suc (suc (suc (suc (suc (suc (suc (suc (suc (suc (suc (suc (suc (suc zero)))))))))))))))))) l h = unmoved_right 18 Shipped spell_shipped shipped_at shipped_right (λ x. refl) is_shipped (λ m x. refl)
body_rest (suc (suc (suc (suc (suc (suc (suc (suc (suc (suc (suc (suc (suc (suc (suc (suc (suc (suc (suc n))))))))))))))))))) l h = absurd (omega (arith, h))
