-- What a host gives back is what the rules of contents want.
use Rattle.std.proofs.Common.{◌≡◌, ℕ, ◌<◌, ◌≤◌, ◌⊎◌, true, Some, List, [], ◌∷◌, inl, inr, sym, ◌∙◌, ap, subst, refl}
use Rattle.std.proofs.Common.{arith}
use Rattle.base_types.specs.Spans.{has_byte}
use Rattle.base_types.specs.declared.ids.Fid.{Fid}
use Rattle.base_types.specs.declared.ids.HostId.{HostId}
use Rattle.base_types.specs.declared.span.Span.{Span}
use Rattle.message_types.specs.declared.giving.Give.{Give}
use Rattle.script_lines.specs.declared.script.Script.{Script}
use Rattle.token_types.specs.declared.token.Kind.TheVariants.{Bytes, Status}
use Rattle.token_types.specs.declared.token.Token.{Token}
use Rattle.tree_laws.specs.Parts.Part.{ByteAt, Size}
use Rattle.run_rules.specs.HostMay.{HostMay}
use Rattle.run_rules.specs.HostTokens.{DirtyLength, OwnsUpdate as OwnsByte}
use Rattle.run_rules.specs.Messages.{HasStopped, Stops}
use Rattle.run_rules.specs.Past.{In}
use Rattle.run_rules.specs.Tokens.{AtHand, Held, Made, Owns}
use Rattle.run_rules.specs.Views.{HasLength, IsLastLength, LengthIsClean, LengthIsDirty, TakesStatus, byte_of}
use Rattle.run_rules.specs.Views.{is_dirty, sees as host_sees}
use Rattle.run_parts.specs.Contents.{Clean, Contents, GivesShow, MadeSince, OverUpdate, OwnsUpdate, SendsBack}
use Rattle.run_parts.specs.Contents.{TakesUpdate, dirty, sees}
use Rattle.run_contents.proofs.Views.{view_same, sees_same, dirty_same}
use Rattle.run_contents.proofs.Words.{given, gave, update_byte, update_size, byte_covers, byte_update, size_covers}
use Rattle.run_contents.proofs.Words.{size_update}
use Rattle.run_contents.specs.Steps.{HostRun, IsOfJournal}
use Rattle.run_rules.specs.declared.step.Step.{Step}

-- a host that hasn't stopped holds what it owns, and owns what it holds
pub held_owns : (script : Script) (host : HostId) (past : List Step) → HostRun script host past → (t : Token)
    → Held past t → Owns past t
held_owns script host [] run t k = elim k [ ]
held_owns script host (s ∷ past) run t k = (
  elim k.0 [ inl m ↦ inl m | inr h ↦ inr (held_owns script host past run.0 t h) ],
  λ l. k.1 (run.1.tokens.drops t k.0 l),
)

stops_here : (s : Step) (past : List Step) → Stops s → HasStopped (s ∷ past)
stops_here s past (v, e, n, q) = (v, e, n, inl q)

stopped_on : (s : Step) (past : List Step) → HasStopped past → HasStopped (s ∷ past)
stopped_on s past (v, e, n, q) = (v, e, n, inr q)

pub owns_held : (script : Script) (host : HostId) (past : List Step) → HostRun script host past → (HasStopped past → ⊥)
    → (t : Token) → Owns past t → Held past t
owns_held script host [] run up t k = elim k [ ]
owns_held script host (s ∷ past) run up t k = (
  elim k.0 [
    | inl m ↦ inl m
    | inr h ↦ inr (owns_held script host past run.0 (λ z. up (stopped_on s past z)) t h)
  ],
  λ d. elim (run.1.tokens.drops_only t d) [ inl l ↦ k.1 l | inr z ↦ up (stops_here s past z) ],
)

takes_status : (s : Step) (f : Fid) → TakesUpdate s f Size → TakesStatus s f
takes_status s f (t, m, u) = (t, m, (u.file, update_size t.kind u.covers u.update))

takes_update : (s : Step) (f : Fid) → TakesStatus s f → TakesUpdate s f Size
takes_update s f (t, m, (file, kind)) =
    (t, m, record { file = file; covers = size_covers t.kind kind; update = size_update t.kind kind })

-- the last give-back with a size since the token was taken
last_since : (past : List Step) (f : Fid) (g : Give) → IsLastLength past f g → MadeSince past f g
last_since [] f g l = l
last_since (s ∷ past) f g (inl l) = inl l.0
last_since (s ∷ past) f g (inr l) = inr (last_since past f g l.0, λ t. l.1 (takes_status s f t))

last_made : (past : List Step) (f : Fid) (g : Give) → IsLastLength past f g → Made past g
last_made [] f g l = l
last_made (s ∷ past) f g (inl l) = inl l.0
last_made (s ∷ past) f g (inr l) = inr (last_made past f g l.0)

last_file : (past : List Step) (f : Fid) (g : Give) → IsLastLength past f g → g.fid ≡ f
last_file [] f g l = elim l [ ]
last_file (s ∷ past) f g (inl l) = l.1.0
last_file (s ∷ past) f g (inr l) = last_file past f g l.0

last_top : (script : Script) (host : HostId) (past : List Step) → HostRun script host past → (f : Fid) (g : Give)
    → IsLastLength past f g → (k : Give) → Made past k → HasLength k f → k.number ≤ g.number
last_top script host [] run f g l k m has = elim l [ ]
last_top script host (s ∷ past) run f g (inl l) k (inl m) has = let one : k ≡ g =
    run.1.gives.one_a_file k g m l.0 (has.0 ∙ sym l.1.0) in
    let same : k.number ≡ g.number = ap (λ (z : Give). z.number) one in omega (arith, same)
last_top script host (s ∷ past) run f g (inl l) k (inr m) has = let lt : k.number < g.number =
    run.1.tokens.makes_new g k l.0 m (ap (λ (z : Fid). z.fileset) (has.0 ∙ sym l.1.0)) in omega (arith, lt)
last_top script host (s ∷ past) run f g (inr l) k (inl m) has = absurd (l.2 k m has)
last_top script host (s ∷ past) run f g (inr l) k (inr m) has = last_top script host past run.0 f g l.0 k m has

is_last : (script : Script) (host : HostId) (past : List Step) → HostRun script host past → (f : Fid) (g : Give)
    → MadeSince past f g → Made past g → HasLength g f
    → ((k : Give) → Made past k → HasLength k f → k.number ≤ g.number) → IsLastLength past f g
is_last script host [] run f g l m has top = l
is_last script host (s ∷ past) run f g (inl l) m has top = inl (l, has)
is_last script host (s ∷ past) run f g (inr l) (inl m) has top = inl (m, has)
is_last script host (s ∷ past) run f g (inr l) (inr m) has top =
    inr (
      is_last script host past run.0 f g l.0 m has (λ k z. top k (inr z)),
      (λ t. l.1 (takes_update s f t)),
      λ k z h. (let lt : g.number < k.number =
          run.1.tokens.makes_new k g z m (ap (λ (y : Fid). y.fileset) (has.0 ∙ sym h.0)) in
          let le : k.number ≤ g.number = top k (inl z) h in absurd (omega (arith, lt, le))),
    )

module _ (c : Contents) (same : IsOfJournal c) (script : Script) (host : HostId) (past : List Step) (s : Step)
    (run : HostRun script host past) (m : HostMay script host past s) where
  has_length : (g : Give) (f : Fid) (x : ℕ) → g.fid ≡ f → c.gives g Size ≡ Some x → HasLength g f
  has_length g f x file has = (file, (x, sym (same.gives g Size) ∙ has))

  gives_length : (g : Give) (x : ℕ) → g.length ≡ Some x → c.gives g Size ≡ Some x
  gives_length g x e = same.gives g Size ∙ e

  gives_byte : (g : Give) (at x : ℕ) → c.gives g (ByteAt at) ≡ Some x → byte_of g.pieces at ≡ Some x
  gives_byte g at x e = sym (same.gives g (ByteAt at)) ∙ e

  -- a size is clean in the rules' words just where it is so in the journal's
  to_clean : (f : Fid) → LengthIsClean past s f → Clean c past s f
  to_clean f l = record {
    give = l.give;
    since = last_since past f l.give l.last;
    alone = λ t. l.since (takes_status s f t);
    made = last_made past f l.give l.last;
    file = last_file past f l.give l.last;
    has = gives_length l.give (host_sees past s f Size) l.present
        ∙ ap (λ z. Some z) (sym (sees_same c same script host past run s f Size));
    known = l.known;
    last = λ g x made file has. last_top script host past run f l.give l.last g made (has_length g f x file has);
  }

  from_clean : (f : Fid) → Clean c past s f → LengthIsClean past s f
  from_clean f k = record {
    give = k.give;
    last = is_last script host past run f k.give k.since k.made
        (has_length k.give f (sees c past s f Size) k.file k.has)
        (λ g made has. k.last g has.1.0 made has.0 (gives_length g has.1.0 has.1.1));
    since = λ t. k.alone (takes_update s f t);
    present = sym (same.gives k.give Size)
        ∙ (k.has ∙ ap (λ z. Some z) (sees_same c same script host past run s f Size));
    known = k.known;
  }

  over : (t : Token) (f : Fid) (at : ℕ) (span : Span) → t.fid ≡ f → t.kind ≡ Bytes true span → has_byte span at ≡ true
      → OverUpdate t f (ByteAt at)
  over t f at span file kind has =
      record { file = file; covers = byte_covers t.kind span at kind has; update = byte_update t.kind span kind }

  owns_byte : (past : List Step) (f : Fid) (at : ℕ) → OwnsUpdate past f (ByteAt at) → OwnsByte past f at
  owns_byte past f at u = let k = update_byte u.token.kind at u.covers u.update in
      (u.token, u.owned, (k.0, u.file, k.1, k.2))

  owns_update : (past : List Step) (f : Fid) (at : ℕ) → OwnsByte past f at → OwnsUpdate past f (ByteAt at)
  owns_update past f at (t, owned, (span, file, kind, has)) =
      record {
        token = t;
        owned = owned;
        file = file;
        covers = byte_covers t.kind span at kind has;
        update = byte_update t.kind span kind;
      }

  unclean : (f : Fid) → (Clean c past s f → ⊥) → (t : Token) → t.fid ≡ f → t.kind ≡ Status true → LengthIsDirty past s t
  unclean f never t file kind = ((refl, kind), λ k. never (subst (λ j. Clean c past s j) file (to_clean t.fid k)))

  given_size : (g : Give) (x : ℕ) → In g s.made → c.gives g Size ≡ Some x → DirtyLength past s g.fid
      × (host_sees past s g.fid Size ≡ x)
  given_size g x made has = m.gives.length g x made (sym (same.gives g Size) ∙ has)

  hands' : (f : Fid) (q : ℕ) → c.hands s f q ≡ true → (g : Give) × (x : ℕ) × In g s.made × (g.fid ≡ f)
      × (c.gives g (ByteAt q) ≡ Some x)
  hands' f q e = let k = given s f q (sym (same.hands s f q) ∙ e) in
      (k.0, k.1, k.2, k.3, same.gives k.0 (ByteAt q) ∙ k.4)

  gives_dirty' : (g : Give) (q x : ℕ) → In g s.made → c.gives g (ByteAt q) ≡ Some x → dirty c past g.fid q ≡ true
  gives_dirty' g q x made has =
      let k = m.gives.bytes g q x made (gives_byte g q x has) in
      let t = k.0 in
      dirty_same c same script host past run g.fid q ∙ subst (λ j. is_dirty past j q ≡ true) t.3 t.4.1

  gives_under' : (g : Give) (q x : ℕ) → In g s.made → c.gives g (ByteAt q) ≡ Some x → (t : Token) × AtHand s past t
      × In t.id g.ids × OverUpdate t g.fid (ByteAt q)
  gives_under' g q x made has =
      let t = (m.gives.bytes g q x made (gives_byte g q x has)).0 in
      let u = t.4.0 in
      (t.0, t.1, t.2, over t.0 g.fid q u.0 t.3 u.2 u.3)

  gives_own' : (g : Give) (x : ℕ) → In g s.made → c.gives g Size ≡ Some x → OwnsUpdate past g.fid Size
      ⊎ TakesUpdate s g.fid Size
  gives_own' g x made has = own (given_size g x made has).0
    where
      own : DirtyLength past s g.fid → OwnsUpdate past g.fid Size ⊎ TakesUpdate s g.fid Size
      own (t, inl taken, file, ((same_file, kind), never)) =
          inr (t, taken, record { file = file; covers = size_covers t.kind kind; update = size_update t.kind kind })
      own (t, inr held, file, ((same_file, kind), never)) =
          inl (record {
            token = t;
            owned = held_owns script host past run t held;
            file = file;
            covers = size_covers t.kind kind;
            update = size_update t.kind kind;
          })

  gives_unclean' : (g : Give) (x : ℕ) → In g s.made → c.gives g Size ≡ Some x → Clean c past s g.fid → ⊥
  gives_unclean' g x made has clean = own (given_size g x made has).0
    where
      own : DirtyLength past s g.fid → ⊥
      own (t, hand, file, (kind, never)) = never (subst (LengthIsClean past s) (sym file) (from_clean g.fid clean))

  saves' : (f : Fid) (q : ℕ) → dirty c past f q ≡ true → OwnsUpdate past f (ByteAt q)
      → OwnsUpdate (s ∷ past) f (ByteAt q) ⊎ (c.hands s f q ≡ true)
  saves' f q d u =
      elim (m.gives.bytes_saved f q (sym (dirty_same c same script host past run f q) ∙ d) (owns_byte past f q u)) [
        | inl k ↦ inl (owns_update (s ∷ past) f q k)
        | inr k ↦ inr (same.hands s f q ∙ gave s f q k.2.1.0 k.0 k.1 k.2.0 k.2.1.1)
      ]

  saves_size' : (f : Fid) (u : OwnsUpdate past f Size) → (Clean c past s f → ⊥) → OwnsUpdate (s ∷ past) f Size
      ⊎ SendsBack c past s f u.token
  saves_size' f u never =
      elim (m.gives.length_saved u.token u.owned
      (unclean f never u.token u.file (update_size u.token.kind u.covers u.update))) [
        | inl k ↦ inl (record { token = u.token; owned = k; file = u.file; covers = u.covers; update = u.update })
        | inr k ↦ inr (record {
          give = k.0;
          made = k.1;
          file = k.2 ∙ u.file;
          has = gives_length k.0 (host_sees past s u.token.fid Size) k.3
              ∙ ap (λ z. Some z) (ap (λ (j : Fid). host_sees past s j Size) u.file
              ∙ sym (sees_same c same script host past run s f Size));
          names = k.4;
        })
      ]

  gives_too' : (g : Give) (q x : ℕ) → In g s.made → c.gives g (ByteAt q) ≡ Some x → OwnsUpdate past g.fid Size
      → (Clean c past s g.fid → ⊥) → (y : ℕ) × (c.gives g Size ≡ Some y)
  gives_too' g q x made has u never =
      let held = owns_held script host past run m.tokens.live u.token u.owned in (
        host_sees past s g.fid Size,
        gives_length g (host_sees past s g.fid Size)
            (m.gives.length_too g made (
              u.token,
              inr held,
              u.file,
              unclean g.fid never u.token u.file (update_size u.token.kind u.covers u.update),
            )),
      )

  pub gives_show : GivesShow c past s
  gives_show = record {
    gives_once = m.gives.one_a_file;
    hands = hands';
    gives_seen = λ g q x made has. sees_same c same script host past run s g.fid (ByteAt q)
        ∙ (m.gives.bytes g q x made (gives_byte g q x has)).1;
    gives_dirty = gives_dirty';
    gives_under = gives_under';
    gives_last = λ g q x made has u. (m.gives.bytes g q x made (gives_byte g q x has)).2
        (owns_byte (s ∷ past) g.fid q u);
    saves = saves';
    gives_unclean = gives_unclean';
    gives_size = λ g x made has. sees_same c same script host past run s g.fid Size ∙ (given_size g x made has).1;
    gives_own = gives_own';
    saves_size = saves_size';
    gives_too = gives_too';
  }
