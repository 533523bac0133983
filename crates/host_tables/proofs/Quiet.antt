-- The tables after a quiet step.
use Rattle.run_rules.specs.Views.{writes_byte}
use Rattle.base_types.specs.Ids.{same_fid}
use Rattle.base_types.specs.declared.ids.Fid.{Fid}
use Rattle.host_cache.specs.Seen.{tells}
use Rattle.host_dirty.specs.Dirtiness.{is_dirty as is_dirty_in}
use Rattle.host_tables.proofs.Lists.{none_in, true_false}
use Rattle.host_tables.specs.Half.{half}
use Rattle.host_tables.specs.Quiet.{IsQuiet, Moved, MovesRight, QuietSettles, with_moved}
use Rattle.host_tables.specs.Settling.{Settled}
use Rattle.host_tables.specs.Stands.{LeavingStands, Stands}
use Rattle.host_tables.specs.Tables.{content, labelled}
use Rattle.host_tables.specs.declared.tables.Tables.{Tables}
use Rattle.message_types.specs.declared.giving.Give.{Give}
use Rattle.run_rules.specs.HostMay.{TakenBefore}
use Rattle.run_rules.specs.HostTokens.{LastUsed, OwnsUpdate, UsesToken}
use Rattle.run_rules.specs.Messages.{HasKeptToken}
use Rattle.run_rules.specs.Past.{In}
use Rattle.run_rules.specs.Tokens.{Drops, HasEndedUse, HoldsId, LabelInUse, Made}
use Rattle.run_rules.specs.Views.{after_answers, byte_of, changed_by_writes, gives_at, is_dirty, writes_at, writes_to}
use Rattle.run_rules.specs.declared.applied.Answer.{Answer as AnswerOf}
use Rattle.run_rules.specs.declared.step.Labelled.{Labelled}
use Rattle.run_rules.specs.declared.step.Step.{Step}
use Rattle.script_lines.specs.declared.script.Script.{Script}
use Rattle.std.proofs.Common.{Bool, List, Option, ap, arith, false, if◌then◌else◌, inl, inr, is_some, not, refl, sym}
use Rattle.std.proofs.Common.{true, zero, ℕ, ◌&&◌, ◌||◌, ◌∙◌, ◌∷◌, ◌≡◌}
use Rattle.std.specs.List.{list_any}
use Rattle.std.specs.Option.{option_map_or}
use Rattle.token_types.specs.declared.token.Token.{Token}
use Rattle.token_types.specs.declared.token.TokenId.{TokenId}
use Rattle.tree_laws.specs.Parts.{Part}
use Rattle.tree_laws.specs.Parts.Part.{ByteAt}
use Rattle.host_tables.proofs.Standing as standing

and_true : (b : Bool) → b ≡ (b && true)
and_true true = refl
and_true false = refl

module _ (script : Script) (m : Tables) (x : Moved) (past : List Step) (s : Step)
    (learnt : Stands script m (half s ∷ past))
    (under : (fid : Fid) (at : ℕ) → is_dirty past fid at ≡ true → OwnsUpdate past fid at)
    (quiet : IsQuiet s) (moves : MovesRight m x past s) where
  none_answered : (a : AnswerOf) → In a s.answers → ⊥
  none_answered a i = none_in s.answers quiet.answers a i

  none_made : (g : Give) → In g s.made → ⊥
  none_made g i = none_in s.made quiet.made g i

  none_begun : (u : Labelled) → In u s.begun → ⊥
  none_begun u i = none_in s.begun quiet.begun u i

  none_dropped : (t : Token) → Drops s t → ⊥
  none_dropped t d = none_in s.dropped quiet.dropped d.0 d.1

  -- labels are in use as before
  used_there : (u : Labelled) → LabelInUse (half s ∷ past) u → LabelInUse (s ∷ past) u
  used_there u i =
      inr (standing.used_before script m past s learnt u i, (λ e. none_answered e.0 e.1), λ g j. absurd (none_made g j))

  used_back : (u : Labelled) → LabelInUse (s ∷ past) u → LabelInUse (half s ∷ past) u
  used_back u (inl i) = absurd (none_begun u i)
  used_back u (inr i) = standing.used_after script m past s learnt u i.0

  kept_there : (i : TokenId) → HasKeptToken (half s ∷ past) i → HasKeptToken (s ∷ past) i
  kept_there i (inl k) = elim k.4.1 [ ]
  kept_there i (inr k) = inr k

  kept_back : (i : TokenId) → HasKeptToken (s ∷ past) i → HasKeptToken (half s ∷ past) i
  kept_back i (inl k) = absurd (quiet.keeps i k)
  kept_back i (inr k) = inr k

  holds_back : (i : TokenId) → HoldsId (s ∷ past) i → HoldsId (half s ∷ past) i
  holds_back i (t, h, e) = (t, (h.0, λ d. elim d.1 [ ]), e)

  made_half : (g : Give) → Made (s ∷ past) g → Made (half s ∷ past) g
  made_half g (inl i) = absurd (none_made g i)
  made_half g (inr i) = inr i

  half_made : (g : Give) → Made (half s ∷ past) g → Made (s ∷ past) g
  half_made g (inl i) = elim i [ ]
  half_made g (inr i) = inr i

  ended_half : (g : Give) (u : Labelled) → HasEndedUse (s ∷ past) g u → HasEndedUse (half s ∷ past) g u
  ended_half g u (inl i) = absurd (none_made g i.0)
  ended_half g u (inr i) = inr i

  half_ended : (g : Give) (u : Labelled) → HasEndedUse (half s ∷ past) g u → HasEndedUse (s ∷ past) g u
  half_ended g u (inl i) = elim i.0 [ ]
  half_ended g u (inr i) = inr i

  -- nothing is written or given back
  writes_none : (fid : Fid) → writes_to s fid ≡ false
  writes_none fid = ap (λ (o : Option Fid). option_map_or (λ (file : Fid). same_fid file fid) o false) quiet.wrote

  gives_nothing : (fid : Fid) (at : ℕ) → gives_at s fid at ≡ false
  gives_nothing fid at =
      ap (list_any (λ (give : Give). same_fid give.fid fid && is_some (byte_of give.pieces at))) quiet.made

  writes_none_at : (fid : Fid) (at : ℕ) → writes_at s fid at ≡ false
  writes_none_at fid at = ap (λ (b : Bool). b && list_any (λ (a : AnswerOf). writes_byte a.call at) s.answers)
      (writes_none fid)

  dirty : (fid : Fid) (at : ℕ) → is_dirty_in m.dirty fid at
      ≡ ((writes_at s fid at || is_dirty_in m.dirty fid at) && not (gives_at s fid at))
  dirty fid at =
      and_true (is_dirty_in m.dirty fid at)
      ∙ (ap (λ (b : Bool). is_dirty_in m.dirty fid at && not b) (sym (gives_nothing fid at))
      ∙ ap (λ (b : Bool). (b || is_dirty_in m.dirty fid at) && not (gives_at s fid at)) (sym (writes_none_at fid at)))

  unwritten : (fid : Fid) (part : Part) → content m.cache fid part ≡ changed_by_writes s (content m.cache) fid part
  unwritten fid part =
      ap (λ (b : Bool). if b then after_answers s.answers part (content m.cache fid part) else content m.cache fid part)
      (sym (writes_none fid))

  -- tokens are used as by the half step
  uses_half : (t : Token) → UsesToken script.roster m.host past s t → UsesToken script.roster m.host past (half s) t
  uses_half t (inl i) = inl i
  uses_half t (inr u) = absurd (none_answered u.1 u.3)

  half_uses : (t : Token) → UsesToken script.roster m.host past (half s) t → UsesToken script.roster m.host past s t
  half_uses t (inl i) = inl i
  half_uses t (inr u) = elim u.3 [ ]

  last_half : (t : Token) (n : ℕ) → LastUsed script.roster m.host (s ∷ past) t n
      → LastUsed script.roster m.host (half s ∷ past) t n
  last_half t n (inl u) = inl (uses_half t u.0, u.1)
  last_half t n (inr l) = inr (l.0, λ u. l.1 (half_uses t u))

  leaving : LeavingStands m.leaving m.ending (s ∷ past)
  leaving = record {
    tokens = λ g i mk. learnt.leaving.tokens g i (made_half g mk);
    from = λ y i. let r = learnt.leaving.from y i in
        (r.0, (r.1.0, half_made r.1.0 r.1.1, r.1.2, r.1.3, r.1.4, r.1.5, r.1.6));
    ends = λ u e. let r = learnt.leaving.ends u e in (r.0, (r.1.0, half_ended r.1.0 u r.1.1, r.1.2));
    ended = λ u g h. learnt.leaving.ended u g (ended_half g u h);
    uses = λ g a y p u. let r = learnt.leaving.uses g a (made_half g y) p u in (r.0, half_ended g r.0 r.1);
    one = λ g k a b x y. learnt.leaving.one g k a b (made_half g x) (made_half k y);
  }

  pub settled : Settled script m (with_moved m x) past s
  settled = record {
    host = refl;
    user = refl;
    limit = refl;
    no_stop = quiet.no_stop;
    stay = λ t i. (i, none_dropped t);
    all = λ t i. inl i;
    marked = λ h i e. let r = learnt.cache.marked h i e in (r.0, used_there r.0 r.1, r.2);
    unmarked = λ h i e u. learnt.cache.unmarked h i e (u.0, used_back u.0 u.1, u.2);
    tells = learnt.cache.tells;
    content_is = λ fid part e. unwritten fid part;
    beyond = λ fid at far. unwritten fid (ByteAt at);
    zero = learnt.contents.zero;
    order = λ before behind late early e i n k a b.
        learnt.order before behind late early e i n k (last_half late.token n a) (last_half early.token k b);
    dirty_before = under;
    dirty = dirty;
    written = λ fid at e. absurd (true_false (writes_at s fid at) e (writes_none_at fid at));
    length_new = λ g n i. absurd (none_made g i);
    length_old = λ fid none. refl;
    label_is = λ u i. inr (i, (λ e. none_answered e.0 e.1), λ g j. absurd (none_made g j));
    is_label = λ u y. elim y [ inl i ↦ absurd (none_begun (labelled u) i) | inr z ↦ z.0 ];
    begun_held = λ u i. absurd (none_begun u i);
    used_stay = λ u y. none_dropped u.token;
    pinned = λ u y e. kept_there u.token.id (learnt.uses.pinned u (used_back u y) e);
    kept = λ u y k. learnt.uses.kept u (used_back u y) (kept_back u.token.id k);
    kept_used = λ i k h. let r = learnt.uses.kept_used i (kept_back i k) (holds_back i h) in
        (r.0, used_there r.0 r.1, r.2);
    label_order = λ before behind first later e i t. learnt.uses.order before behind first later e i
        (taken_half (labelled later) (labelled first) t);
    labels = record { locks = learnt.labels.locks; opens = learnt.labels.opens };
    gives_from = λ y i. inl i;
    gives_old = λ y i. i;
    gives_new = λ g i. absurd (none_made g i);
    unknown = λ g i. absurd (none_made g i);
    last_up = λ fs. omega arith;
    last_new = λ g i. absurd (none_made g i);
    last_is = λ fs. inl refl;
    leaving = leaving;
    floors = refl;
    site_epoch = moves.site_epoch;
    site_welcome = moves.site_welcome;
    site_has_bye = moves.site_has_bye;
    site_greeted = moves.site_greeted;
    site_said_bye = moves.site_said_bye;
    site_claimed = moves.site_claimed;
    claims_apart = moves.claims_apart;
    request = moves.request;
    numbers = moves.numbers;
    homes = refl;
    call_from = λ c e. elim (moves.call_from c e) [
      | inl a ↦ inl a
      | inr o ↦ inr (o, λ a i. absurd (none_answered a i))
    ];
    call_asked = moves.call_asked;
    call_stays = λ c e none. moves.call_stays c e;
    begun = moves.begun;
    lost = moves.lost;
    parted = moves.parted;
  }
    where
      taken_half : (u w : Labelled) → TakenBefore (s ∷ past) u w → TakenBefore (half s ∷ past) u w
      taken_half u w (inl b) = absurd (none_begun w b.0)
      taken_half u w (inr b) = inr (b.0, λ i. elim i [ ])

pub quiet_settles : QuietSettles
quiet_settles script m x past s learnt under quiet moves = settled script m x past s learnt under quiet moves
