-- Some tokens leave, file by file: what has left so far.
use Rattle.base_types.specs.Ids.{same_fid}
use Rattle.base_types.specs.declared.ids.Fid.{Fid}
use Rattle.base_types.specs.declared.ids.FilesetId.{FilesetId}
use Rattle.base_types.specs.declared.limits.TheConstants.{FILE_BYTES_MAX}
use Rattle.host_cache.specs.Holding.{is_status, tokens_of}
use Rattle.host_cache.specs.Seen.{seen}
use Rattle.host_cache.specs.declared.held.Held.{Held}
use Rattle.host_dirty.specs.Dirtiness.{is_dirty as is_dirty_in}
use Rattle.host_gives.specs.Counters.{last_of}
use Rattle.host_gives.specs.Giving.{outstanding}
use Rattle.host_leaves.specs.Dirtying.{is_named}
use Rattle.host_leaves.specs.Giving.{AreLeft, HasToGive, ids_of, shown_without}
use Rattle.host_leaves.specs.Owning.{dirty_length}
use Rattle.host_leaves.specs.Revoking.{covers_status, of_file}
use Rattle.host_manager.proofs.LeftBy.{IsLeftBy, left_by, stays_of}
use Rattle.host_manager.proofs.LeftSo.{OnceSo, first_left, returns, start_by}
use Rattle.host_tables.proofs.Lists.{any_in, by_test, false_not, filter_in, id_same, in_any, in_filter, in_map}
use Rattle.host_tables.proofs.Lists.{map_in, not_true, same_id_is}
use Rattle.host_tables.specs.Drafts.{no_draft}
use Rattle.host_tables.specs.LeavingSteps.{Left, with_left}
use Rattle.host_tables.specs.Tables.{content, held_of, length_given}
use Rattle.host_gives.specs.declared.leavings.Leaving.{Leaving}
use Rattle.host_tables.specs.declared.draft.Draft.{Draft}
use Rattle.host_tables.specs.declared.tables.Tables.{Tables}
use Rattle.message_types.specs.declared.giving.Give.{Give}
use Rattle.message_types.specs.declared.message.Body.TheVariants.{GiveBack}
use Rattle.message_types.specs.declared.message.Message.{Message}
use Rattle.message_types.specs.declared.tokens.Named.{Named}
use Rattle.run_rules.specs.Past.{EachOnce, In}
use Rattle.run_rules.specs.Tokens.{number_of}
use Rattle.run_rules.specs.Views.{HasLength, byte_of}
use Rattle.run_rules.specs.declared.applied.Why.{Why}
use Rattle.run_rules.specs.declared.applied.Why.TheVariants.{Revoked}
use Rattle.std.proofs.Common.{Bool, List, None, Some, [], arith, false, inl, inr, is_some, not}
use Rattle.std.proofs.Common.{refl, subst, suc, sym, true, ℕ, ◌&&◌, ◌+◌, ◌<◌, ◌≡◌, ◌≤◌, ◌⊎◌}
use Rattle.std.specs.List.{list_any}
use Rattle.token_types.specs.Conflicts.{same_id}
use Rattle.token_types.specs.declared.token.Token.{Token}
use Rattle.token_types.specs.declared.token.TokenId.{TokenId}
use Rattle.tree_laws.specs.Parts.Part.{ByteAt}

-- the give-back of those of some tokens that are of one file and leave
pub record IsPart (m : Tables) (tokens : List Token) (g : Give) : Type 0 where
  pub named : List Token
  pub from : (t : Token) → In t named → In t (of_file g.fid tokens)
  pub ids : g.ids ≡ ids_of named
  pub some : named ≡ [] → ⊥
  pub only : (t : Token) → In t named → HasToGive m g.fid (of_file g.fid tokens) t
  pub pieces : AreLeft m g.fid named (of_file g.fid tokens) g.pieces
  pub length : g.length ≡ dirty_length m g.fid
  pub ends : g.ends ≡ None

-- The tables once those of some tokens have left that are of these files: which those are, and which give-backs were
-- made of them.
pub record PartSo (m : Tables) (tokens : List Token) (l : Left) (fids : List Fid) (gone : List Token)
    (made : List Give) : Type 0 where
  pub uses : l.uses ≡ m.uses
  pub ending : l.ending ≡ m.ending
  pub shown : seen l.cache ≡ shown_without (seen m.cache) gone
  pub from : (t : Token) → In t gone → In t tokens × In t.fid fids
  pub all : (t : Token) → In t tokens → In t.fid fids → In t gone
  pub part : (g : Give) → In g made → IsPart m tokens g
  pub its_file : (g : Give) → In g made → In g.fid fids
  pub one : (g k : Give) → In g made → In k made → g.fid ≡ k.fid → g ≡ k
  pub has : (t : Token) → In t gone → HasToGive m t.fid (of_file t.fid tokens) t
      → (g : Give) × In g made × (g.fid ≡ t.fid) × In t.id g.ids
  pub above : (g : Give) → In g made → last_of m.gives.counters g.fid.fileset < g.number
  pub next : (g : Give) → In g made → (g.number ≡ last_of m.gives.counters g.fid.fileset + 1)
      ⊎ ((k : Give) × In k made × (k.fid.fileset ≡ g.fid.fileset) × (suc k.number ≡ g.number))
  pub apart : (g k : Give) → In g made → In k made → number_of g ≡ number_of k → g ≡ k
  pub dirty : (fid : Fid) (at : ℕ) → is_dirty_in l.dirty fid at ≡ (is_dirty_in m.dirty fid at
      && not (list_any (λ give. same_fid give.fid fid && is_some (byte_of give.pieces at)) made))
  pub length_new : (g : Give) (n : ℕ) → In g made → g.length ≡ Some n
      → length_given l.lengths g.fid ≡ Some (record { fid = g.fid; number = g.number; length = n; known = false })
  pub length_old : (fid : Fid) → ((g : Give) → In g made → HasLength g fid → ⊥)
      → length_given l.lengths fid ≡ length_given m.lengths fid
  pub gives_from : (y : Message) → In y l.gives.gives → In y m.gives.gives ⊎ ((g : Give) × (y.body ≡ GiveBack g)
      × In g made)
  pub gives_old : (y : Message) → In y m.gives.gives → In y l.gives.gives
  pub gives_new : (g : Give) → In g made → (y : Message) × In y l.gives.gives × (y.body ≡ GiveBack g)
  pub last_up : (fs : FilesetId) → last_of m.gives.counters fs ≤ last_of l.gives.counters fs
  pub last_new : (g : Give) → In g made → g.number ≤ last_of l.gives.counters g.fid.fileset
  pub last_is : (fs : FilesetId) → (last_of l.gives.counters fs ≡ last_of m.gives.counters fs)
      ⊎ ((g : Give) × In g made × (g.fid.fileset ≡ fs) × (g.number ≡ last_of l.gives.counters fs))
  pub leaving_old : (y : Leaving) → In y m.leaving → In y l.leaving
  pub leaving_new : (g : Give) (t : Token) → In g made → In t (held_of m) → In t.id g.ids
      → In (record { fileset = g.fid.fileset; number = g.number; token = t }) l.leaving
  pub leaving_from : (y : Leaving) → In y l.leaving → In y m.leaving
      ⊎ ((g : Give) × In g made × In y.token (held_of m)
      × In y.token.id g.ids × (y.fileset ≡ g.fid.fileset) × (y.number ≡ g.number))

-- what is said of them, beside what was said first, and which filesets have to be seen to
pub record PartSaid (m : Tables) (first : List Message) (asked : Fid) (others : List TokenId) (fids : List Fid)
    (gone : List Token)
    (made : List Give) (sent : List Message) (dues : List FilesetId) : Type 0 where
  pub said : (y : Message) → In y sent → In y first ⊎ ((w : Named) × (y ≡ returns m w) × In w.fid fids
      × ((i : TokenId) → In i w.ids → ((t : Token) × In t gone × (t.id ≡ i) × (t.fid ≡ w.fid)
      × ((g : Give) → In g made → In i g.ids → ⊥)) ⊎ (In i others × (w.fid ≡ asked))))
  pub keeps : (y : Message) → In y first → In y sent
  pub back : (t : Token) → In t gone → ((g : Give) × In g made × In t.id g.ids)
      ⊎ ((w : Named) × In (returns m w) sent × In t.id w.ids)
  pub rest : (i : TokenId) → In i others → In asked fids
      → (w : Named) × In (returns m w) sent × In i w.ids × (w.fid ≡ asked)
  pub due : (g : Give) → In g made → outstanding m.gives g.fid.fileset ≡ None → In g.fid.fileset dues

-- which files have lost their last token of the status, while a call is open
pub record PartLost (m : Tables) (tokens : List Token) (l : Left) (fids lost : List Fid) : Type 0 where
  pub old : (f : Fid) → In f m.lost → In f lost
  pub from : (f : Fid) → In f lost → In f m.lost ⊎ ((covers_status f (of_file f tokens) ≡ true)
      × (is_some m.call ≡ true) × (covers_status f (tokens_of l.cache.held) ≡ false))
  pub new : (f : Fid) → In f fids → covers_status f (of_file f tokens) ≡ true → is_some m.call ≡ true
      → covers_status f (tokens_of l.cache.held) ≡ false → In f lost

-- a draft in which such has been done
abbrev pub start : List Give → List Token → List Message → List FilesetId → Draft
start = start_by Revoked

-- the tokens of these files have left, for one cause
pub record HasLeft (why : Why) (m : Tables) (tokens : List Token) (first : List Message) (asked : Fid)
    (back : List TokenId) (lost : List Fid) (fids : List Fid) (x : Tables) (d : Draft) : Type 0 where
  pub l : Left
  pub gone : List Token
  pub made : List Give
  pub sent : List Message
  pub due : List FilesetId
  pub tables : x ≡ record (with_left m l) { lost = lost }
  pub draft : d ≡ start_by why made gone sent due
  pub left : PartSo m tokens l fids gone made
  pub said : PartSaid m first asked back fids gone made sent due
  pub once : OnceSo m gone made sent due

-- those that are asked back, and the files that are lost by it
pub record HasParted (m : Tables) (tokens : List Token) (first : List Message) (asked : Fid) (back : List TokenId)
    (fids : List Fid) (x : Tables) (d : Draft) : Type 0 where
  pub l : Left
  pub lost : List Fid
  pub gone : List Token
  pub made : List Give
  pub sent : List Message
  pub due : List FilesetId
  pub tables : x ≡ record (with_left m l) { lost = lost }
  pub draft : d ≡ start made gone sent due
  pub left : PartSo m tokens l fids gone made
  pub said : PartSaid m first asked back fids gone made sent due
  pub loses : PartLost m tokens l fids lost
  pub once : OnceSo m gone made sent due

and_not_false : (b : Bool) → b ≡ (b && not false)
and_not_false true = refl
and_not_false false = refl

-- before the first file
pub none_left : (why : Why) (m : Tables) (tokens : List Token) (first : List Message) (asked : Fid)
    (back : List TokenId) → EachOnce first
    → HasLeft why m tokens first asked back m.lost [] m (record no_draft { sent = first })
none_left why m tokens first asked back once = record {
  l = first_left m;
  gone = [];
  made = [];
  sent = first;
  due = [];
  tables = refl;
  draft = refl;
  left = record {
    uses = refl;
    ending = refl;
    shown = refl;
    from = λ t i. elim i [ ];
    all = λ t i j. elim j [ ];
    part = λ g i. elim i [ ];
    its_file = λ g i. elim i [ ];
    one = λ g k i j e. elim i [ ];
    has = λ t i h. elim i [ ];
    above = λ g i. elim i [ ];
    next = λ g i. elim i [ ];
    apart = λ g k i j e. elim i [ ];
    dirty = λ fid at. and_not_false (is_dirty_in m.dirty fid at);
    length_new = λ g n i e. elim i [ ];
    length_old = λ fid none. refl;
    gives_from = λ y i. inl i;
    gives_old = λ y i. i;
    gives_new = λ g i. elim i [ ];
    last_up = λ fs. omega arith;
    last_new = λ g i. elim i [ ];
    last_is = λ fs. inl refl;
    leaving_old = λ y i. i;
    leaving_new = λ g t i j n. elim i [ ];
    leaving_from = λ y i. inl i;
  };
  said = record {
    said = λ y i. inl i;
    keeps = λ y i. i;
    back = λ t i. elim i [ ];
    rest = λ i j k. elim k [ ];
    due = λ g i e. elim i [ ];
  };
  once = record { tokens = tt; gives = tt; messages = once; filesets = tt; new = λ fs i. elim i [ ] };
}

-- and where they are asked back
pub none_parted : (m : Tables) (tokens : List Token) (first : List Message) (asked : Fid) (back : List TokenId)
    → EachOnce first → HasParted m tokens first asked back [] m (record no_draft { sent = first })
none_parted m tokens first asked back once =
    let h = none_left Revoked m tokens first asked back once in record {
      l = h.l;
      lost = m.lost;
      gone = h.gone;
      made = h.made;
      sent = h.sent;
      due = h.due;
      tables = h.tables;
      draft = h.draft;
      left = h.left;
      said = h.said;
      loses = record { old = λ f i. i; from = λ f i. inl i; new = λ f i. elim i [ ] };
      once = h.once;
    }

-- # Which are left
module _ (m : Tables) (once : (t u : Token) → In t (held_of m) → In u (held_of m) → t.id ≡ u.id → t ≡ u)
    (tells : (h : Held) → In h m.cache.held → is_status h.token.kind ≡ true → h.tells ≡ true)
    (zero : (fid : Fid) (at : ℕ) → FILE_BYTES_MAX ≤ at → content m.cache fid (ByteAt at) ≡ 0)
    (tokens : List Token) (their : (t : Token) → In t tokens → In t (held_of m))
    (l : Left) (fids : List Fid) (gone : List Token) (made : List Give) (so : PartSo m tokens l fids gone made) where
  pub kept : IsLeftBy m.cache l.cache gone
  kept = left_by m.cache l.cache gone so.shown tells zero

  named_in : (t : Token) → In t gone → is_named gone t ≡ true
  named_in t i = any_in (λ (u : Token). same_id u.id t.id) gone t i (id_same t.id t.id refl)

  in_named : (t : Token) → In t (held_of m) → is_named gone t ≡ true → In t gone
  in_named t i e =
      let r = in_any (λ (u : Token). same_id u.id t.id) gone e in
      subst (λ (u : Token). In u gone) (once r.0 t (their r.0 (so.from r.0 r.1).0) i (same_id_is r.0.id t.id r.2)) r.1

  pub held_from : (t : Token) → In t (tokens_of l.cache.held) → In t (held_of m) × (In t gone → ⊥)
  held_from t i =
      let k = in_map (λ (h : Held). h.token) l.cache.held t i in
      let q = in_filter (stays_of gone) m.cache.held k.0
      (subst (λ (hs : List Held). In k.0 hs) kept.held k.1) in (
        subst (λ (u : Token). In u (held_of m)) (sym k.2) (map_in (λ (h : Held). h.token) m.cache.held k.0 q.0),
        λ j. not_true (is_named gone k.0.token) q.1
            (subst (λ (u : Token). is_named gone u ≡ true) k.2 (named_in t j)),
      )

  held_to : (t : Token) → In t (held_of m) → is_named gone t ≡ false → In t (tokens_of l.cache.held)
  held_to t i n =
      let k = in_map (λ (h : Held). h.token) m.cache.held t i in
      let q : stays_of gone k.0 ≡ true = false_not (is_named gone k.0.token)
      (subst (λ (u : Token). is_named gone u ≡ false) k.2 n) in
      subst (λ (u : Token). In u (tokens_of l.cache.held)) (sym k.2) (map_in (λ (h : Held). h.token) l.cache.held k.0
      (subst (λ (hs : List Held). In k.0 hs) (sym kept.held) (filter_in (stays_of gone) m.cache.held k.0 k.1 q)))

  pub gone_or : (t : Token) → In t (held_of m) → In t gone ⊎ In t (tokens_of l.cache.held)
  gone_or t i = elim (by_test (is_named gone t)) [
    | inl e ↦ inl (in_named t i e)
    | inr n ↦ inr (held_to t i n)
  ]
