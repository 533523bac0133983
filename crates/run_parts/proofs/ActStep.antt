-- A server's doing, a restart too, keeps what it shares with each host and the tree.
use Rattle.std.proofs.Common.{◌≡◌, ℕ, ◌<◌, ◌≤◌, ◌⊎◌, true, false, Option, Some, None, List, ◌∷◌, inl, inr, sym, ◌∙◌}
use Rattle.std.proofs.Common.{ap, subst, refl, arith}
use Rattle.std.proofs.lemmas.Bool.{cases_eq, cases_lt}
use Rattle.base_types.specs.declared.ids.HostId.{HostId}
use Rattle.base_types.specs.declared.ids.ServerId.{ServerId}
use Rattle.base_types.specs.declared.ids.FilesetId.{FilesetId}
use Rattle.base_types.specs.declared.ids.Fid.{Fid}
use Rattle.token_types.specs.declared.token.Token.{Token}
use Rattle.token_types.specs.declared.token.Need.{Need}
use Rattle.token_types.specs.Conflicts.{need_of}
use Rattle.message_types.specs.declared.message.Body.{Body}
use Rattle.message_types.specs.declared.message.Body.TheVariants.{Fetch, Grant, Done, GiveBack, Down, Bye}
use Rattle.message_types.specs.declared.asking.Fetch.{Fetch as FetchOf}
use Rattle.message_types.specs.declared.telling.Bring.{Bring}
use Rattle.message_types.specs.declared.telling.Grant.{Grant as GrantOf}
use Rattle.message_types.specs.declared.telling.Done.{Done as DoneOf}
use Rattle.message_types.specs.declared.giving.Give.{Give}
use Rattle.run_rules.specs.declared.step.Step.{Step}
use Rattle.run_rules.specs.Doings.{BringsTokens, Doing, HasGoneAway, IsApplied, SentTo, TakesOf, epoch}
use Rattle.run_rules.specs.Doings.Doing.{Sent, Took}
use Rattle.run_rules.specs.Messages.{Asking, Said, epoch_at}
use Rattle.run_rules.specs.Past.{In}
use Rattle.run_rules.specs.ServerTokens.{MayBring, ServerTokens}
use Rattle.run_rules.specs.Tokens.{AboveFloor, Made, Owns, number_of}
use Rattle.run_tokens.specs.TokenLaws.{Applies}
use Rattle.run_parts.proofs.Words.{taken_is, taken_live}
use Rattle.run_tokens.proofs.Owed.{Owed}
use Rattle.run_tokens.proofs.Invariant.{Alone}
use Rattle.run_tokens.proofs.Law.{AtServer}
use Rattle.tree_laws.specs.Parts.{Nature, Part, Seen, Written, present}
use Rattle.tree_laws.specs.Parts.Part.{ByteAt, Size, Traits, Entries}
use Rattle.tree_laws.specs.Fates.{without}
use Rattle.need_host.specs.Shows.{shows}
use Rattle.run_parts.specs.Cells.{Does, by, value_of, stored, kept_stored, cell_after, kept_after}
use Rattle.run_parts.specs.Cells.Does.{Nothing, Stores, Sets, Loses}
use Rattle.run_parts.specs.Deeds.{Deed, acts_in}
use Rattle.run_parts.specs.Contents.{Contents, site, kept, view, dirty, OwnsUpdate, MadeSince, HasSaid}
use Rattle.run_parts.specs.Contents.{IsThere, IsWritable, ServerShows}
use Rattle.run_parts.specs.Legal.{Cells, cells_after, IsStill, KeptIsPresent, LegalSize, LegalDoing}
use Rattle.run_parts.proofs.Cells.{none_some, none_of, same_some, by_same, value_is, value_none, lost_same, left_is}
use Rattle.run_parts.proofs.Cells.{left_size, left_none, size_stored, unsaved_was, none_stays, cases_host}
use Rattle.run_parts.specs.Contents.{Pending}
use Rattle.run_parts.proofs.Invariant.{Alike, IsDirectory, Open, Leaving, Shown, Treed, Writes, conflict_at}
use Rattle.run_parts.proofs.Invariant.{alone_there, pending_owned, owner_writes, open_writes, mine_writes, barred}
use Rattle.run_parts.proofs.Invariant.{applied_below}

-- the doing and what is so before it
pub record OneDoing (c : Contents) (own_of : HostId
    → List Step) (cells : Cells) (v : ServerId) (D : List Deed) (d : Deed) : Type 0 where
  pub at : AtServer own_of v (acts_in D)
  pub alone : (h : HostId) → Alone (own_of h)
  pub seen : (h : HostId) → Alike c (own_of h)
  pub shown : (h : HostId) → Shown c h (own_of h) cells v D
  pub treed : Treed c cells v D
  pub may : ServerTokens v (acts_in D) d.act
  pub rules : ServerShows c v D d
  pub heard : (h : HostId) (e n : ℕ) (b : Body) → d.act ≡ Took h e n b → Said (own_of h) v e n b
  pub next : AtServer own_of v (d.act ∷ acts_in D)

module _ (c : Contents) (own_of : HostId
    → List Step) (cells : Cells) (v : ServerId) (D : List Deed) (d : Deed) (o : OneDoing c own_of cells v D d) where
  abbrev S : List Doing
  S = acts_in D

  abbrev a : Doing
  a = d.act

  abbrev cells' : Cells
  cells' f p = cell_after p (d.does f p) (cells f p)

  owner : (h : HostId) (p : Part) (f : Fid) → site f ≡ v → (HasGoneAway S h → ⊥) → OwnsUpdate (own_of h) f p → Writes v S h f p
  owner h = owner_writes c h (own_of h) cells v D o.at.served (o.at.link h) (o.seen h) (o.shown h)

  giver : (h : HostId) (p : Part) (f : Fid) (x : Seen p) (g : Give) → site f ≡ v → (HasGoneAway S h → ⊥)
      → Open c (own_of h) v S h f p x g → Writes v S h f p
  giver h = open_writes c h (own_of h) cells v D o.at.served (o.at.link h) (o.seen h) (o.shown h)

  writer : (p : Part) (f : Fid) (u : Written (Seen p)) → site f ≡ v → (cells f p).unsaved ≡ Some u
      → Writes v S u.writer f p
  writer p f u home e = mine_writes c u.writer (own_of u.writer) cells v D o.at.served (o.at.link u.writer)
      (o.seen u.writer) (o.shown u.writer) p f u.value home e

  -- a give-back that is taken was said
  said : (h : HostId) (fs : FilesetId) (g : Give) → TakesOf v S a h fs (GiveBack g) → (n : ℕ)
      × Said (own_of h) v (epoch S) n (GiveBack g)
  said h fs g t = let k = taken_is v S a h fs (GiveBack g) t in (k.0, o.heard h (epoch S) k.0 (GiveBack g) k.1)

  made : (h : HostId) (fs : FilesetId) (g : Give) → TakesOf v S a h fs (GiveBack g) → Made (own_of h) g
  made h fs g t = let k = said h fs g t in ((o.alone h).said_made g v (epoch S) k.0 k.1).0

  -- what is stored, and by whom
  record Storing (f : Fid) (p : Part) (x : Seen p) : Type 0 where
    host : HostId
    give : Give
    applies : Applies v S a host give
    on_way : Open c (own_of host) v S host f p x give

  storing : (f : Fid) (p : Part) (x : Seen p) → d.does f p ≡ Stores x → Storing f p x
  storing f p x e =
      let r = o.rules.stores f p x e in
      record {
        host = r.0;
        give = r.1;
        applies = r.2;
        on_way = record { made = made r.0 r.1.fid.fileset r.1 r.2.0; file = r.3; has = r.4; not_applied = r.2.1 };
      }

  storing_live : (f : Fid) (p : Part) (x : Seen p) (r : Storing f p x) → HasGoneAway S r.host → ⊥
  storing_live f p x r = taken_live v S a r.host r.give.fid.fileset (GiveBack r.give) r.applies.0

  -- a give-back that is applied after the doing was so before, or is taken now
  applied_cases : (h : HostId) (g : Give) → site g.fid ≡ v → Made (own_of h) g → IsApplied v (a ∷ S) h (number_of g)
      → IsApplied v S h (number_of g) ⊎ TakesOf v S a h g.fid.fileset (GiveBack g)
  applied_cases h g home m (inr r) = inl r
  applied_cases h g home m (inl (k, t, same, le)) =
      let q = said h g.fid.fileset k t in
      elim (cases_lt g.number k.number) [
        | inl lt ↦ inl ((o.at.link h).known (number_of g) home
            ((o.alone h).said_first k g v (epoch S) q.0 q.1 m (sym same) lt))
        | inr ge ↦ (let one : k ≡ g = (o.alone h).numbers k g (made h g.fid.fileset k t) m same (omega arith) in
            inr (subst (λ j. TakesOf v S a h g.fid.fileset (GiveBack j)) one t))
      ]

  before : (h : HostId) (p : Part) (f : Fid) (x : Seen p) (g : Give) → Open c (own_of h) v (a ∷ S) h f p x g
      → Open c (own_of h) v S h f p x g
  before h p f x g k = record { made = k.made; file = k.file; has = k.has; not_applied = λ r. k.not_applied (inr r) }

  -- what is on its way is for an object that is there
  open_there : (h : HostId) (p : Part) (f : Fid) (x : Seen p) (g : Give) → site f ≡ v → (HasGoneAway S h → ⊥)
      → Open c (own_of h) v S h f p x g → IsThere (kept c D f Traits)
  open_there h p f x g home live k = let w = giver h p f x g home live k in
      subst (λ j. IsThere (kept c D j Traits)) w.file (o.treed.there w.token (ap site w.file ∙ home) w.owed)

  -- a give-back stores nothing but what it has: a size at least the kept one
  took_size : (h : HostId) (g : Give) (f : Fid) (n : ℕ) → a ≡ Took h (epoch S) n (GiveBack g)
      → kept c D f Size ≤ kept c (d ∷ D) f Size
  took_size h g f n t = go (d.does f Size) refl
    where
      go : (k : Does ℕ) → d.does f Size ≡ k → kept c D f Size ≤ kept_after Size k (kept c D f Size)
      go Nothing e = omega arith
      go (Stores x) e = omega arith
      go (Sets x) e = absurd (let w = (o.rules.sets f Size x e).0 in
          let q : Took h (epoch S) n (GiveBack g) ≡ _ = sym t ∙ w.1 in cc)
      go (Loses j) e = omega arith

  stored_size : (h : HostId) (f : Fid) (x : ℕ) (g : Give) → Open c (own_of h) v S h f Size x g
      → TakesOf v S a h g.fid.fileset (GiveBack g) → IsWritable (kept c D f Traits) → d.does f Size ≡ Stores x
  stored_size h f x g k t w = subst (λ j. d.does j Size ≡ Stores x) k.file
      (o.rules.stores_all h g Size x (t, k.not_applied)
      (subst (λ j. IsWritable (kept c D j Traits)) (sym k.file) w) tt k.has)

  -- a byte that is applied lies below the kept size that is left
  fits : (h : HostId) (q : ℕ) (f : Fid) (x : ℕ) (g : Give) → site f ≡ v → Open c (own_of h) v S h f (ByteAt q) x g
      → TakesOf v S a h g.fid.fileset (GiveBack g) → q < kept c (d ∷ D) f Size
  fits h q f x g home k t =
      elim ((o.shown h).open_below q f x g home k live) [
        | inl lt ↦ (let same = o.treed.kept_is Size f home in omega (arith, lt, same, grown))
        | inr r ↦ below r.0 r.1 r.2 r.3 r.4
      ]
    where
      live : HasGoneAway S h → ⊥
      live = taken_live v S a h g.fid.fileset (GiveBack g) t

      grown : kept c D f Size ≤ kept c (d ∷ D) f Size
      grown = let n = taken_is v S a h g.fid.fileset (GiveBack g) t in took_size h g f n.0 n.1

      below : (y : ℕ) (r : Give) → Open c (own_of h) v S h f Size y r → q < y → r.number ≤ g.number
          → q < kept c (d ∷ D) f Size
      below y r w lt le =
          let files : r.fid ≡ g.fid = w.file ∙ sym k.file in
          elim (cases_lt r.number g.number) [
            | inl less ↦ (let n = said h g.fid.fileset g t in
                absurd (w.not_applied ((o.at.link h).known (number_of r) (ap site w.file ∙ home)
                ((o.alone h).said_first g r v (epoch S) n.0 n.1 w.made (ap (λ (j : Fid). j.fileset) files) less))))
            | inr ge ↦ (
                let one : g ≡ r = (o.alone h).numbers g r k.made w.made (ap (λ (j : Fid). j.fileset) (sym files))
                (omega (arith, ge, le)) in
                let does : d.does f Size ≡ Stores y =
                stored_size h f y r w (subst (λ j. TakesOf v S a h j.fid.fileset (GiveBack j)) one t)
                (o.treed.writable (ByteAt q) f (by h x) home ((o.shown h).open_is q f x g home k live)) in
                subst (λ j. q < kept_after Size j (kept c D f Size)) (sym does) (omega (arith, lt))
                )
          ]

  -- what is on its way and is taken is stored, where the file can keep it
  stored_now : (h : HostId) (p : Part) (f : Fid) (x : Seen p) (g : Give) → site f ≡ v → Open c (own_of h) v S h f p x g
      → TakesOf v S a h g.fid.fileset (GiveBack g) → IsWritable (kept c D f Traits) → d.does f p ≡ Stores x
  stored_now h (ByteAt q) f x g home k t w =
      subst (λ j. d.does j (ByteAt q) ≡ Stores x) k.file
      (o.rules.stores_all h g (ByteAt q) x (t, k.not_applied)
      (subst (λ j. IsWritable (kept c D j Traits)) (sym k.file) w)
      (subst (λ j. q < kept c (d ∷ D) j Size) (sym k.file) (fits h q f x g home k t)) k.has)
  stored_now h Size f x g home k t w = stored_size h f x g k t w
  stored_now h Traits f x g home k t w = elim (c.gives_data g Traits x k.has) [ ]
  stored_now h Entries f x g home k t w = elim (c.gives_data g Entries x k.has) [ ]

  -- what is on its way stays so, but where it is stored
  still_open : (h : HostId) (p : Part) (f : Fid) (x : Seen p) (g : Give) → site f ≡ v → IsWritable (kept c D f Traits)
      → (d.does f p ≡ Stores x → ⊥) → Open c (own_of h) v S h f p x g → Open c (own_of h) v (a ∷ S) h f p x g
  still_open h p f x g home w none k =
      record {
        made = k.made;
        file = k.file;
        has = k.has;
        not_applied = λ r. elim (applied_cases h g (ap site k.file ∙ home) k.made r) [
          | inl q ↦ k.not_applied q
          | inr t ↦ none (stored_now h p f x g home k t w)
        ];
      }

  -- a token over a part is owed only for an object that is there
  not_gone : (f : Fid) (t : Token) → site f ≡ v → Owed v S t → t.fid ≡ f → kept c D f Traits ≡ None → ⊥
  not_gone f t home w same e = let i = o.treed.there t (ap site same ∙ home) w in
      none_some (kept c D f Traits) i.0 e (subst (λ j. kept c D j Traits ≡ Some i.0) same i.1)

  -- no Change sets a part over which a token is owed
  no_sets : (f : Fid) (p : Part) (x : Seen p) (t : Token) → site f ≡ v → d.does f p ≡ Sets x → Owed v S t → t.fid ≡ f
      → shows t.kind p ≡ true → ⊥
  no_sets f p x t home e w same cov = elim (o.rules.sets f p x e).1 [
    | inl gone ↦ not_gone f t home w same gone
    | inr bars ↦ barred v S o.at.served t (bars t same cov) w
  ]

  no_sets_whole : (f : Fid) (x q : ℕ) (t : Token) → site f ≡ v → d.does f Size ≡ Sets x → Owed v S t → t.fid ≡ f
      → shows t.kind (ByteAt q) ≡ true → ⊥
  no_sets_whole f x q t home e w same cov =
      elim (o.rules.sets_whole f x q t e same cov) [
        | inl gone ↦ not_gone f t home w same gone
        | inr bars ↦ barred v S o.at.served t bars w
      ]

  -- a message that is sent changes nothing
  sends_nothing : (h : HostId) (e n : ℕ) (b : Body) (f : Fid) (p : Part) → a ≡ Sent h e n b → d.does f p ≡ Nothing
  sends_nothing h e n b f p t = go (d.does f p) refl
    where
      go : (k : Does (Seen p)) → d.does f p ≡ k → k ≡ Nothing
      go Nothing r = refl
      go (Stores x) r = absurd (let y = storing f p x r in
          let z = taken_is v S a y.host y.give.fid.fileset (GiveBack y.give) y.applies.0 in
          let q : Sent h e n b ≡ Took y.host (epoch S) z.0 (GiveBack y.give) = sym t ∙ z.1 in cc)
      go (Sets x) r = absurd (let w = (o.rules.sets f p x r).0 in let q : Sent h e n b ≡ _ = sym t ∙ w.1 in cc)
      go (Loses j) r = absurd (let w = o.rules.loses f p j r in
          let q : Sent h e n b ≡ Took j w.0 w.1 Down = sym t ∙ w.2 in cc)

  brings_nothing : (h : HostId) (e n : ℕ) (w : Bring) (f : Fid) (p : Part) → BringsTokens a h e n w → d.does f p ≡ Nothing
  brings_nothing h e n w f p (inl q) = sends_nothing h e n (Grant q.0) f p q.1
  brings_nothing h e n w f p (inr q) = sends_nothing h e n (Done q.0) f p q.1

  goes_down : (f : Fid) (p : Part) (h j : HostId) → d.does f p ≡ Loses h → h ≡ j → HasGoneAway (a ∷ S) j
  goes_down f p h j e same = let l = o.rules.loses f p h e in
      inl (inl (l.0, l.1, l.2 ∙ ap (λ i. Took i l.0 l.1 Down) same))

  -- a size that is stored is between the kept and the present one
  between : (f : Fid) (x : ℕ) → site f ≡ v → d.does f Size ≡ Stores x → ((cells f Size).kept ≤ x)
      × (x ≤ present (cells f Size))
  between f x home e = let r = storing f Size x e in
      (o.shown r.host).size_open f x r.give home r.on_way (storing_live f Size x r)

  present_stored : (p : Part) (f : Fid) (x : Seen p) → site f ≡ v → d.does f p ≡ Stores x
      → present (stored p x (cells f p)) ≡ present (cells f p)
  present_stored (ByteAt q) f x home e = refl
  present_stored Size f x home e = let b = between f x home e in size_stored x (cells f Size) b.0 b.1
  present_stored Traits f x home e = refl
  present_stored Entries f x home e = refl

  -- under a token that is owed to a host that stays, what is present stays
  same_present : (p : Part) (f : Fid) (t : Token) → site f ≡ v → Owed v S t → (HasGoneAway (a ∷ S) t.host → ⊥) → t.fid ≡ f
      → shows t.kind p ≡ true → present (cells f p) ≡ present (cells' f p)
  same_present p f t home w live same cov = go (d.does f p) refl
    where
      go : (k : Does (Seen p)) → d.does f p ≡ k → present (cells f p) ≡ present (cell_after p k (cells f p))
      go Nothing e = refl
      go (Stores x) e = sym (present_stored p f x home e)
      go (Sets x) e = absurd (no_sets f p x t home e w same cov)
      go (Loses h) e = sym (ap (λ z. value_of z (cells f p).kept)
          (lost_same h (cells f p).unsaved
          (λ u q y. alone_there v S o.at.served u.writer p f t (writer p f u home q) w same cov
          (λ z. live (goes_down f p h t.host e (sym y ∙ sym z))))))

  -- where a token is owed a file stays a file, and a directory a directory
  kind_on : (f : Fid) (t : Token) (n : Nature) → Owed v S t → t.fid ≡ f → kept c D f Traits ≡ Some n → (m : Nature)
      × (kept c (d ∷ D) f Traits ≡ Some m) × (m.dir ≡ n.dir) × (m.read_only ≡ n.read_only)
  kind_on f t n w same k = go (d.does f Traits) refl
    where
      go : (y : Does (Option Nature)) → d.does f Traits ≡ y → (m : Nature)
          × (kept_after Traits y (kept c D f Traits) ≡ Some m) × (m.dir ≡ n.dir) × (m.read_only ≡ n.read_only)
      go Nothing e = (n, k, refl, refl)
      go (Loses h) e = (n, k, refl, refl)
      go (Sets (Some m)) e = let q = o.rules.keeps_kind f n m e k in (m, refl, q.0, q.1)
      go (Sets None) e = absurd (barred v S o.at.served t (o.rules.removes f t e same) w)
      go (Stores x) e = let r = storing f Traits x e in elim (c.gives_data r.give Traits x r.on_way.has) [ ]

  dir_on : (f : Fid) (t : Token) → Owed v S t → t.fid ≡ f → IsDirectory c D f → IsDirectory c (d ∷ D) f
  dir_on f t w same k = let m = kind_on f t k.0 w same k.1 in (m.0, m.1, m.2 ∙ k.2)

  -- a file that can keep what is given back is no directory
  no_directory : (f : Fid) → IsWritable (kept c D f Traits) → IsDirectory c D f → ⊥
  no_directory f w k = let one : w.0 ≡ k.0 = same_some (kept c D f Traits) w.0 k.0 w.1 k.1 in
      let q : false ≡ true = sym w.2 ∙ (ap (λ (n : Nature). n.dir) one ∙ k.2) in cc

  module _ (h : HostId) where
    abbrev A : List Step
    A = own_of h

    cached' : (p : Part) (t : Token) → site t.fid ≡ v → Owns A t → shows t.kind p ≡ true → (HasGoneAway (a ∷ S) h → ⊥)
        → view c A t.fid p ≡ present (cells' t.fid p)
    cached' p t home k cov live =
        let x = (o.at.link h).held t ((o.seen h).owned_at t k ∙ home) k in
        let up : HasGoneAway S h → ⊥ = λ w. live (inr w) in
        (o.shown h).cached p t home k cov up
        ∙ same_present p t.fid t home (x.owed up) (subst (λ j. HasGoneAway (a ∷ S) j → ⊥) (sym x.host) live) refl cov

    -- nothing is unsaved where a new Grant tells what is kept
    clean : (e n : ℕ) (p : Part) (w : GrantOf) (t : Token) → site w.bring.fid ≡ v → a ≡ Sent h e n (Grant w)
        → Asking A w.bring.fid.fileset w.bring.number → In t w.bring.tokens → shows t.kind p ≡ true → (HasGoneAway S h → ⊥)
        → (u : Written (Seen p)) → (cells w.bring.fid p).unsaved ≡ Some u → ⊥
    clean e n p w t home q asking m cov up u i =
        elim (cases_host u.writer h) [
          | inl z ↦
              own ((o.shown h).mine p w.bring.fid u.value home (i ∙ ap (λ j. Some (by j u.value)) z)).1
          | inr two ↦ other two
        ]
      where
        may : MayBring v S h n w.bring
        may = (o.may.grants h e n w q).0

        file : Fid
        file = w.bring.fid

        writable : IsWritable (kept c D w.bring.fid Traits)
        writable = o.treed.writable p w.bring.fid u home i

        own : Pending c A w.bring.fid p ⊎ ((g : Give) × Open c A v S h w.bring.fid p u.value g) → ⊥
        own k =
            let x = o.rules.needs h e n w q in
            let said : HasSaid A x.0 = (v, epoch S, x.1, (o.at.link h).took x.1 (Fetch x.0) x.2) in
            let same : x.0.fid ≡ w.bring.fid = x.4 in
            let at : site x.0.fid ≡ v = ap site same ∙ home in
            let asked : Asking A x.0.fid.fileset x.0.number =
            subst (λ (y : Fid × ℕ). Asking A y.0.fileset y.1) (λ j. (sym same j, sym x.3 j)) asking in
            no_directory w.bring.fid writable (subst (λ j. IsDirectory c D j) same (elim k [
              | inl y ↦ (o.shown h).asked p x.0 (need_of t) at said asked (x.5 t m) cov
                  (subst (λ j. Pending c A j p) (sym same) y) up
              | inr y ↦ (o.shown h).asked_given p x.0 u.value (need_of t) y.0 at said asked (x.5 t m) cov
                  (subst (λ j. Open c A v S h j p u.value y.0) (sym same) y.1) up
            ]))

        other : (u.writer ≡ h → ⊥) → ⊥
        other two = let y = writer p w.bring.fid u home i in
            may.free t y.token m (inl (o.at.served.owed_granted y.token y.owed
            (may.over y.token.host (o.at.served.owed_live y.token y.owed))))
            (conflict_at p t y.token (λ z. two (sym y.host ∙ (sym z ∙ may.host_is t m))) (may.file t m
            ∙ sym y.file) cov y.covers y.update)

    new_flight : (e n : ℕ) (p : Part) (w : GrantOf) (t : Token) → site w.bring.fid ≡ v → a ≡ Sent h e n (Grant w)
        → Asking A w.bring.fid.fileset w.bring.number → In t w.bring.tokens → shows t.kind p ≡ true → (HasGoneAway S h → ⊥)
        → c.tells w p ≡ present (cells' w.bring.fid p)
    new_flight e n p w t home q asking m cov up = o.rules.tells h e n p w t q m cov
        ∙ (sym (o.treed.kept_is p w.bring.fid home)
        ∙ (sym (value_none (cells w.bring.fid p).unsaved (cells w.bring.fid p).kept
        (none_of (cells w.bring.fid p).unsaved (clean e n p w t home q asking m cov up)))
        ∙ ap (λ k. present (cell_after p k (cells w.bring.fid p)))
        (sym (sends_nothing h e n (Grant w) w.bring.fid p q))))

    flight' : (e n : ℕ) (p : Part) (w : GrantOf) (t : Token) → site w.bring.fid ≡ v → SentTo (a ∷ S) h e n (Grant w)
        → e ≡ epoch_at A v → Asking A w.bring.fid.fileset w.bring.number → AboveFloor A w.bring.fid w.bring.stamp
        → In t w.bring.tokens → shows t.kind p ≡ true → (HasGoneAway (a ∷ S) h → ⊥)
        → c.tells w p ≡ present (cells' w.bring.fid p)
    flight' e n p w t home (inl q) now asking above m cov live =
        new_flight e n p w t home q asking m cov (λ z. live (inr z))
    flight' e n p w t home (inr k) now asking above m cov live =
        let i = o.at.served.grants h e n w t k m in
        let up : HasGoneAway S h → ⊥ = λ z. live (inr z) in
        let g = (o.at.link h).in_flight t (record { moves = n; stamp = w.bring.stamp }) i.issued i.host (i.epoch_is
        ∙ now) (subst (λ x. AboveFloor A x w.bring.stamp) (sym i.file) above) up in
        (o.shown h).flight e n p w t home k now asking above m cov up
        ∙ same_present p w.bring.fid t home g (subst (λ j. HasGoneAway (a ∷ S) j → ⊥) (sym i.host) live) i.file cov

    mine' : (p : Part) (f : Fid) (x : Seen p) → site f ≡ v → (cells' f p).unsaved ≡ Some (by h x) → (HasGoneAway (a ∷ S) h → ⊥)
        × (Pending c A f p ⊎ ((g : Give) × Open c A v (a ∷ S) h f p x g))
    mine' p f x home e = (
      live,
      elim old.1 [
        | inl k ↦ inl k
        | inr k ↦ inr (k.0, still_open h p f x k.0 home (o.treed.writable p f (by h x) home was.0) was.1 k.1)
      ],
    )
      where
        was : ((cells f p).unsaved ≡ Some (by h x)) × (d.does f p ≡ Stores x → ⊥) × (d.does f p ≡ Loses h → ⊥)
        was = unsaved_was p (d.does f p) (cells f p) (by h x) e

        old : (HasGoneAway S h → ⊥) × (Pending c A f p ⊎ ((g : Give) × Open c A v S h f p x g))
        old = (o.shown h).mine p f x home was.0

        -- a host that has something unsaved says no Bye
        no_bye : (n : ℕ) → a ≡ Took h (epoch S) n Bye → Pending c A f p ⊎ ((g : Give) × Open c A v S h f p x g) → ⊥
        no_bye n b (inl k) = let u = pending_owned c A (o.seen h) p f k in
            (o.alone h).bye_held u.token v (epoch S, n, o.heard h (epoch S) n Bye b) u.owned
        no_bye n b (inr k) = k.1.not_applied
            ((o.at.link h).known (number_of k.0) (ap site k.1.file ∙ home)
            ((o.seen h).bye_given v k.0 p x (epoch S, n, o.heard h (epoch S) n Bye b) k.1.made k.1.has))

        live : HasGoneAway (a ∷ S) h → ⊥
        live (inl (inl (e, n, down))) = was.2 (o.rules.loses_all f p h e n down old.0)
        live (inl (inr ((n, b), _, _))) = no_bye n b old.1
        live (inr w) = old.0 w

    open_under' : (p : Part) (f : Fid) (x : Seen p) (g : Give) → site f ≡ v → Open c A v (a ∷ S) h f p x g
        → OwnsUpdate A f p ⊎ Leaving A v (a ∷ S) h f p g.number
    open_under' p f x g home k =
        elim ((o.shown h).open_under p f x g home (before h p f x g k)) [
          | inl u ↦ inl u
          | inr l ↦ inr (record {
            give = l.give;
            token = l.token;
            mark = l.mark;
            made = l.made;
            same = l.same;
            not_applied = λ r. k.not_applied
                (applied_below v (a ∷ S) h (number_of l.give) (number_of g)
                (ap (λ (j : Fid). j.fileset) (k.file ∙ sym l.same)) l.later r);
            issued = inr l.issued;
            names = l.names;
            file = l.file;
            covers = l.covers;
            update = l.update;
            later = l.later;
          })
        ]

    asked' : (p : Part) (f : FetchOf) (k : Need) → site f.fid ≡ v → HasSaid A f → Asking A f.fid.fileset f.number
        → In k f.needs → shows k.kind p ≡ true → Pending c A f.fid p → (HasGoneAway (a ∷ S) h → ⊥)
        → IsDirectory c (d ∷ D) f.fid
    asked' p f k home was asking m cov u live =
        let up : HasGoneAway S h → ⊥ = λ z. live (inr z) in
        let w = owner h p f.fid home up (pending_owned c A (o.seen h) p f.fid u) in
        dir_on f.fid w.token w.owed w.file ((o.shown h).asked p f k home was asking m cov u up)

    asked_given' : (p : Part) (f : FetchOf) (x : Seen p) (k : Need) (g : Give) → site f.fid ≡ v → HasSaid A f
        → Asking A f.fid.fileset f.number → In k f.needs → shows k.kind p ≡ true → Open c A v (a ∷ S) h f.fid p x g
        → (HasGoneAway (a ∷ S) h → ⊥) → IsDirectory c (d ∷ D) f.fid
    asked_given' p f x k g home was asking m cov y live =
        let up : HasGoneAway S h → ⊥ = λ z. live (inr z) in
        let w = giver h p f.fid x g home up (before h p f.fid x g y) in
        dir_on f.fid w.token w.owed w.file
        ((o.shown h).asked_given p f x k g home was asking m cov (before h p f.fid x g y) up)

    asked_for' : (e n : ℕ) (w : GrantOf) → SentTo (a ∷ S) h e n (Grant w) → (f : FetchOf) × HasSaid A f
        × (f.number ≡ w.bring.number) × (f.fid ≡ w.bring.fid)
        × ((t : Token) → In t w.bring.tokens → In (need_of t) f.needs)
    asked_for' e n w (inl q) = let x = o.rules.needs h e n w q in
        (x.0, (v, epoch S, x.1, (o.at.link h).took x.1 (Fetch x.0) x.2), x.3, x.4, x.5)
    asked_for' e n w (inr q) = (o.shown h).asked_for e n w q

    blind' : (e n : ℕ) (p : Part) (w : DoneOf) (t : Token) → SentTo (a ∷ S) h e n (Done w) → In t w.bring.tokens
        → shows t.kind p ≡ true → ⊥
    blind' e n p w t (inl q) m cov = (o.shown h).blind e n p w t (o.rules.blind h e n p w t q m cov) m cov
    blind' e n p w t (inr q) m cov = (o.shown h).blind e n p w t q m cov

    -- a host's unsaved byte stays, but where it is stored
    stays : (q : ℕ) (f : Fid) (x : ℕ) → site f ≡ v → (HasGoneAway (a ∷ S) h → ⊥) → (cells f (ByteAt q)).unsaved ≡ Some (by h x)
        → ((y : ℕ) (r : Storing f (ByteAt q) y) → r.host ≡ h → ⊥) → (cells' f (ByteAt q)).unsaved ≡ Some (by h x)
    stays q f x home live i none = go (d.does f (ByteAt q)) refl
      where
        go : (k : Does ℕ) → d.does f (ByteAt q) ≡ k
            → (cell_after (ByteAt q) k (cells f (ByteAt q))).unsaved ≡ Some (by h x)
        go Nothing e = i
        go (Stores y) e =
            let r = storing f (ByteAt q) y e in
            absurd (none y r (by_same r.host h y x
            (sym ((o.shown r.host).open_is q f y r.give home r.on_way (storing_live f (ByteAt q) y r)) ∙ i)).0)
        go (Sets y) e = let w = writer (ByteAt q) f (by h x) home i in
            absurd (no_sets f (ByteAt q) y w.token home e w.owed w.file w.covers)
        go (Loses k) e = lost_same k (cells f (ByteAt q)).unsaved
            (λ u j w. live (goes_down f (ByteAt q) k h e (sym w ∙ (by_same u.writer h u.value x (sym j ∙ i)).0))) ∙ i

    dirty_is' : (q : ℕ) (f : Fid) → site f ≡ v → dirty c A f q ≡ true → (HasGoneAway (a ∷ S) h → ⊥)
        → (cells' f (ByteAt q)).unsaved ≡ Some (by h (view c A f (ByteAt q)))
    dirty_is' q f home k live = stays q f (view c A f (ByteAt q)) home live
        ((o.shown h).dirty_is q f home k (λ w. live (inr w)))
        (λ y r same. (o.shown r.host).open_free q f y r.give home r.on_way
        (subst (λ j. OwnsUpdate (own_of j) f (ByteAt q)) (sym same) ((o.seen h).dirty_owned q f k)))

    open_is' : (q : ℕ) (f : Fid) (x : ℕ) (g : Give) → site f ≡ v → Open c A v (a ∷ S) h f (ByteAt q) x g
        → (HasGoneAway (a ∷ S) h → ⊥) → (cells' f (ByteAt q)).unsaved ≡ Some (by h x)
    open_is' q f x g home k live = stays q f x home live
        ((o.shown h).open_is q f x g home (before h (ByteAt q) f x g k) (λ w. live (inr w))) applied
      where
        applied : (y : ℕ) (r : Storing f (ByteAt q) y) → r.host ≡ h → ⊥
        applied y r same =
            let one : g ≡ r.give = (o.shown h).open_once q f x y g r.give home (before h (ByteAt q) f x g k)
            (subst (λ i. Open c (own_of i) v S i f (ByteAt q) y r.give) same r.on_way) in
            k.not_applied (inl (
              g,
              subst (λ (j : HostId × Give). TakesOf v S a j.0 j.1.fid.fileset (GiveBack j.1))
                  (λ i. (same i, sym one i)) r.applies.0,
              refl,
              omega arith,
            ))

    -- the host that has a token for update of the status, or a size on its way, is the one whose size is stored
    storer : (f : Fid) (x : ℕ) → site f ≡ v → Writes v S h f Size → (r : Storing f Size x) → r.host ≡ h
    storer f x home w r =
        elim (cases_host r.host h) [
          | inl e ↦ e
          | inr two ↦ (let y = giver r.host Size f x r.give home (storing_live f Size x r) r.on_way in
              absurd (alone_there v S o.at.served h Size f y.token w y.owed y.file y.covers
              (λ e. two (sym y.host ∙ e))))
        ]

    size_open' : (f : Fid) (x : ℕ) (g : Give) → site f ≡ v → Open c A v (a ∷ S) h f Size x g → (HasGoneAway (a ∷ S) h → ⊥)
        → ((cells' f Size).kept ≤ x) × (x ≤ present (cells' f Size))
    size_open' f x g home k live = (
      go (d.does f Size) refl,
      subst (λ y. x ≤ y) (same_present Size f w.token home w.owed
          (subst (λ j. HasGoneAway (a ∷ S) j → ⊥) (sym w.host) live) w.file w.covers) old.1,
    )
      where
        up : HasGoneAway S h → ⊥
        up = λ q. live (inr q)

        w : Writes v S h f Size
        w = giver h Size f x g home up (before h Size f x g k)

        old : ((cells f Size).kept ≤ x) × (x ≤ present (cells f Size))
        old = (o.shown h).size_open f x g home (before h Size f x g k) up

        go : (y : Does ℕ) → d.does f Size ≡ y → (cell_after Size y (cells f Size)).kept ≤ x
        go Nothing e = old.0
        go (Stores y) e =
            let r = storing f Size y e in
            let same = storer f y home w r in
            elim (cases_lt r.give.number g.number) [
              | inl lt ↦ (o.shown h).open_order f y x r.give g home
                  (subst (λ i. Open c (own_of i) v S i f Size y r.give) same r.on_way) (before h Size f x g k) up
                  (omega arith)
              | inr ge ↦ (let files : r.give.fid.fileset ≡ g.fid.fileset =
                  ap (λ (j : Fid). j.fileset) (r.on_way.file ∙ sym k.file) in
                  absurd (k.not_applied (inl (
                    r.give,
                    subst (λ (j : HostId × FilesetId). TakesOf v S a j.0 j.1 (GiveBack r.give))
                        (λ i. (same i, files i)) r.applies.0,
                    files,
                    omega arith,
                  ))))
            ]
        go (Sets y) e = absurd (no_sets f Size y w.token home e w.owed w.file w.covers)
        go (Loses j) e = old.0

    settled' : (f : Fid) (g : Give) → site f ≡ v → OwnsUpdate A f Size → MadeSince A f g → Made A g → g.fid ≡ f
        → c.gives g Size ≡ Some (view c A f Size) → IsApplied v (a ∷ S) h (number_of g) → (HasGoneAway (a ∷ S) h → ⊥)
        → (cells' f Size).unsaved ≡ None
    settled' f g home u m was file has applied live =
        elim (applied_cases h g (ap site file ∙ home) was applied) [
          | inl r ↦ stay r
          | inr t ↦ none_of (cells' f Size).unsaved (now t)
        ]
      where
        up : HasGoneAway S h → ⊥
        up = λ q. live (inr q)

        stay : IsApplied v S h (number_of g) → (cells' f Size).unsaved ≡ None
        stay r = none_stays Size (d.does f Size) (cells f Size) ((o.shown h).settled f g home u m was file has r up)

        sees : view c A f Size ≡ present (cells f Size)
        sees = subst (λ j. view c A j Size ≡ present (cells j Size)) u.file
            ((o.shown h).cached Size u.token (ap site u.file ∙ home) u.owned u.covers up)

        -- it is stored now, or it was before
        now : TakesOf v S a h g.fid.fileset (GiveBack g) → (w : Written ℕ) → (cells' f Size).unsaved ≡ Some w → ⊥
        now t w e =
            let fresh : IsApplied v S h (number_of g) → ⊥ = λ r. none_some (cells' f Size).unsaved w (stay r) e in
            let old = (unsaved_was Size (d.does f Size) (cells f Size) w e).0 in
            let does : d.does f Size ≡ Stores (view c A f Size) =
            stored_size h f (view c A f Size) g
            (record { made = was; file = file; has = has; not_applied = fresh }) t
            (o.treed.writable Size f w home old) in
            none_some (cells' f Size).unsaved w
            (subst (λ i. (cell_after Size i (cells f Size)).unsaved ≡ None) (sym does)
            (left_none (view c A f Size) (cells f Size).unsaved
            (λ k q. sym (value_is (cells f Size).unsaved (cells f Size).kept k q) ∙ sym sees))) e

    -- while a token over a byte is owed the kept size doesn't shrink
    kept_on : (q : ℕ) (f : Fid) → site f ≡ v → ((x : ℕ) → d.does f Size ≡ Sets x → ⊥) → q < (cells f Size).kept
        → q < (cells' f Size).kept
    kept_on q f home never lt = go (d.does f Size) refl
      where
        go : (k : Does ℕ) → d.does f Size ≡ k → q < (cell_after Size k (cells f Size)).kept
        go Nothing e = lt
        go (Stores x) e = let b = (between f x home e).0 in omega (arith, b, lt)
        go (Sets x) e = absurd (never x e)
        go (Loses j) e = lt

    -- a size on its way stays so, or it is kept now
    goes_on : (q : ℕ) (f : Fid) (y : ℕ) (r : Give) → site f ≡ v → (HasGoneAway S h → ⊥)
        → ((x : ℕ) → d.does f Size ≡ Sets x → ⊥) → Open c A v S h f Size y r → q < y → Open c A v (a ∷ S) h f Size y r
        ⊎ (q < (cells' f Size).kept)
    goes_on q f y r home up never k lt = pick (cells f Size).unsaved refl
      where
        pick : (m : Option (Written ℕ)) → (cells f Size).unsaved ≡ m → Open c A v (a ∷ S) h f Size y r
            ⊎ (q < (cells' f Size).kept)
        pick None n = inr (kept_on q f home never
            (let top : y ≤ (cells f Size).kept =
            subst (λ m. y ≤ value_of m (cells f Size).kept) n ((o.shown h).size_open f y r home k up).1 in
            omega (arith, top, lt)))
        pick (Some u) n = go (d.does f Size) refl
          where
            stay : (d.does f Size ≡ Stores y → ⊥) → Open c A v (a ∷ S) h f Size y r
            stay none = still_open h Size f y r home (o.treed.writable Size f u home n) none k

            go : (w : Does ℕ) → d.does f Size ≡ w → Open c A v (a ∷ S) h f Size y r
                ⊎ (q < (cell_after Size w (cells f Size)).kept)
            go Nothing e = inl (stay (λ i. let z : Nothing ≡ Stores y = sym e ∙ i in cc))
            go (Sets x) e = inl (stay (λ i. let z : Sets x ≡ Stores y = sym e ∙ i in cc))
            go (Loses j) e = inl (stay (λ i. let z : Loses j ≡ Stores y = sym e ∙ i in cc))
            go (Stores x) e =
                elim (cases_eq x y) [
                  | inl same ↦ inr (omega (arith, same, lt))
                  | inr two ↦ inl (stay (λ i. two (let z : Stores x ≡ Stores y = sym e ∙ i in cc)))
                ]

    no_cut : (q : ℕ) (f : Fid) (x : ℕ) (g : Give) → site f ≡ v → (HasGoneAway S h → ⊥) → Open c A v S h f (ByteAt q) x g
        → (y : ℕ) → d.does f Size ≡ Sets y → ⊥
    no_cut q f x g home up k y e = let w = giver h (ByteAt q) f x g home up k in
        no_sets_whole f y q w.token home e w.owed w.file w.covers

    open_below' : (q : ℕ) (f : Fid) (x : ℕ) (g : Give) → site f ≡ v → Open c A v (a ∷ S) h f (ByteAt q) x g
        → (HasGoneAway (a ∷ S) h → ⊥) → (q < (cells' f Size).kept)
        ⊎ ((y : ℕ) × (r : Give) × Open c A v (a ∷ S) h f Size y r × (q < y) × (r.number ≤ g.number))
    open_below' q f x g home k live =
        let up : HasGoneAway S h → ⊥ = λ w. live (inr w) in
        let never = no_cut q f x g home up (before h (ByteAt q) f x g k) in
        elim ((o.shown h).open_below q f x g home (before h (ByteAt q) f x g k) up) [
          | inl lt ↦ inl (kept_on q f home never lt)
          | inr r ↦ elim (goes_on q f r.0 r.1 home up never r.2 r.3) [
            | inl w ↦ inr (r.0, r.1, w, r.3, r.4)
            | inr lt ↦ inl lt
          ]
        ]

    pub shown_act : Shown c h (own_of h) (cells_after d cells) v (d ∷ D)
    shown_act = record {
      cached = cached';
      flight = flight';
      mine = mine';
      open_under = open_under';
      asked = asked';
      asked_given = asked_given';
      asked_for = asked_for';
      blind = blind';
      dirty_is = dirty_is';
      open_is = open_is';
      open_free = λ q f x g home k. (o.shown h).open_free q f x g home (before h (ByteAt q) f x g k);
      open_once = λ q f x y g k home z w. (o.shown h).open_once q f x y g k home (before h (ByteAt q) f x g z)
          (before h (ByteAt q) f y k w);
      size_open = size_open';
      open_order = λ f x y g k home z w live. (o.shown h).open_order f x y g k home (before h Size f x g z)
          (before h Size f y k w) (λ i. live (inr i));
      since_le = λ f x g home u m file has live. (o.shown h).since_le f x g home u m file has (λ w. live (inr w));
      settled = settled';
      open_below = open_below';
    }

  kept_is' : (p : Part) (f : Fid) → site f ≡ v → (cells' f p).kept ≡ kept c (d ∷ D) f p
  kept_is' p f home = go (d.does f p) refl
    where
      grows : (p : Part) (x : Seen p) → d.does f p ≡ Stores x
          → (stored p x (cells f p)).kept ≡ kept_stored p x (kept c D f p)
      grows (ByteAt q) x e = let r = storing f (ByteAt q) x e in
          value_is (cells f (ByteAt q)).unsaved (cells f (ByteAt q)).kept (by r.host x)
          ((o.shown r.host).open_is q f x r.give home r.on_way (storing_live f (ByteAt q) x r))
      grows Size x e = let b = (between f x home e).0 in let same = o.treed.kept_is Size f home in
          omega (arith, b, same)
      grows Traits x e = let r = storing f Traits x e in elim (c.gives_data r.give Traits x r.on_way.has) [ ]
      grows Entries x e = let r = storing f Entries x e in elim (c.gives_data r.give Entries x r.on_way.has) [ ]

      go : (k : Does (Seen p)) → d.does f p ≡ k → (cell_after p k (cells f p)).kept ≡ kept_after p k (kept c D f p)
      go Nothing e = o.treed.kept_is p f home
      go (Stores x) e = grows p x e
      go (Sets x) e = refl
      go (Loses h) e = o.treed.kept_is p f home

  -- an owed token's object stays
  there' : (t : Token) → site t.fid ≡ v → Owed v (a ∷ S) t → IsThere (kept c (d ∷ D) t.fid Traits)
  there' t home (inl (x, (h, e, w, b, m, _))) =
      let was : IsThere (kept c D t.fid Traits) =
      elim (o.rules.there h e x.moves w t b m)
      [ inl g ↦ o.treed.there t home ((o.at.link t.host).granted_owed t refl g) | inr i ↦ i ] in
      subst (λ k. IsThere (kept_after Traits k (kept c D t.fid Traits)))
      (sym (brings_nothing h e x.moves w t.fid Traits b)) was
  there' t home (inr w) = let n = o.treed.there t home w.0 in let m = kind_on t.fid t n.0 w.0 refl n.1 in (m.0, m.1)

  writable' : (p : Part) (f : Fid) (u : Written (Seen p)) → site f ≡ v → (cells' f p).unsaved ≡ Some u
      → IsWritable (kept c (d ∷ D) f Traits)
  writable' p f u home e =
      let old = (unsaved_was p (d.does f p) (cells f p) u e).0 in
      let w = writer p f u home old in
      let n = o.treed.writable p f u home old in
      let m = kind_on f w.token n.0 w.owed w.file n.1 in
      (m.0, m.1, m.2 ∙ n.2, m.3 ∙ n.3)

  grown' : (f : Fid) (u : Written ℕ) → site f ≡ v → (cells' f Size).unsaved ≡ Some u → (cells' f Size).kept ≤ u.value
  grown' f u home = go (d.does f Size) refl
    where
      go : (k : Does ℕ) → d.does f Size ≡ k → (cell_after Size k (cells f Size)).unsaved ≡ Some u
          → (cell_after Size k (cells f Size)).kept ≤ u.value
      go Nothing e q = o.treed.grown f u home q
      go (Stores x) e q = let l = left_size x (cells f Size).unsaved u q in
          subst (λ m. x ≤ value_of m (cells f Size).kept) l.0 (between f x home e).1
      go (Sets x) e q = absurd (let i : None ≡ Some u = q in cc)
      go (Loses h) e q = o.treed.grown f u home (left_is h (cells f Size).unsaved u q).0

  byte_was : (q : ℕ) (f : Fid) (u : Written ℕ) → (cells' f (ByteAt q)).unsaved ≡ Some u
      → (cells f (ByteAt q)).unsaved ≡ Some u
  byte_was q f u e = (unsaved_was (ByteAt q) (d.does f (ByteAt q)) (cells f (ByteAt q)) u e).0

  inside' : (q : ℕ) (f : Fid) (u : Written ℕ) → site f ≡ v → (cells' f (ByteAt q)).unsaved ≡ Some u
      → q < present (cells' f Size)
  inside' q f u home e0 = go (d.does f Size) refl
    where
      e : (cells f (ByteAt q)).unsaved ≡ Some u
      e = byte_was q f u e0

      lt : q < present (cells f Size)
      lt = o.treed.inside q f u home e

      go : (k : Does ℕ) → d.does f Size ≡ k → q < present (cell_after Size k (cells f Size))
      go Nothing r = lt
      go (Stores x) r = subst (λ y. q < y) (sym (present_stored Size f x home r)) lt
      go (Sets x) r = let w = writer (ByteAt q) f u home e in
          absurd (no_sets_whole f x q w.token home r w.owed w.file w.covers)
      go (Loses h) r = lost (cells f Size).unsaved refl
        where
          apart_u : h ≡ u.writer → ⊥
          apart_u n = (mine' u.writer (ByteAt q) f u.value home e0).0 (goes_down f Size h u.writer r n)

          lost : (m : Option (Written ℕ)) → (cells f Size).unsaved ≡ m
              → q < value_of (without h (cells f Size).unsaved) (cells f Size).kept
          lost None j = subst (λ m. q < value_of m (cells f Size).kept)
              (sym (lost_same h (cells f Size).unsaved (λ w i _. none_some (cells f Size).unsaved w j i))) lt
          lost (Some l) j =
              elim (cases_host l.writer h) [
                | inl n ↦ least (o.treed.apart q f u l home e j (λ i. apart_u (sym n ∙ sym i)))
                | inr n ↦ subst (λ m. q < value_of m (cells f Size).kept)
                    (sym (lost_same h (cells f Size).unsaved
                    (λ w i k. n ((by_same l.writer w.writer l.value w.value (sym j ∙ i)).0 ∙ k)))) lt
              ]
            where
              least : q < (cells f Size).kept → q < value_of (without h (cells f Size).unsaved) (cells f Size).kept
              least le = pick (without h (cells f Size).unsaved) refl
                where
                  pick : (m : Option (Written ℕ)) → without h (cells f Size).unsaved ≡ m
                      → q < value_of m (cells f Size).kept
                  pick None i = le
                  pick (Some w) i = let g = o.treed.grown f w home (left_is h (cells f Size).unsaved w i).0 in
                      omega (arith, g, le)

  apart' : (q : ℕ) (f : Fid) (u w : Written ℕ) → site f ≡ v → (cells' f (ByteAt q)).unsaved ≡ Some u
      → (cells' f Size).unsaved ≡ Some w → (u.writer ≡ w.writer → ⊥) → q < (cells' f Size).kept
  apart' q f u w home e0 q0 two = go (d.does f Size) refl q0
    where
      old : (cells f Size).unsaved ≡ Some w → q < (cells f Size).kept
      old i = o.treed.apart q f u w home (byte_was q f u e0) i two

      go : (k : Does ℕ) → d.does f Size ≡ k → (cell_after Size k (cells f Size)).unsaved ≡ Some w
          → q < (cell_after Size k (cells f Size)).kept
      go Nothing r i = old i
      go (Stores x) r i = let lt = old (left_size x (cells f Size).unsaved w i).0 in let b = (between f x home r).0 in
          omega (arith, lt, b)
      go (Sets x) r i = absurd (let n : None ≡ Some w = i in cc)
      go (Loses h) r i = old (left_is h (cells f Size).unsaved w i).0

  pub treed_act : Treed c (cells_after d cells) v (d ∷ D)
  treed_act = record {
    kept_is = kept_is';
    plain = λ p f home free. none_stays p (d.does f p) (cells f p) (o.treed.plain p f home free);
    alike = o.rules.alike;
    roots = o.rules.roots;
    there = there';
    writable = writable';
    grown = grown';
    inside = inside';
    apart = apart';
  }

  -- what the doing applies is legal
  on_way_now : (h : HostId) (g : Give) (p : Part) (x : Seen p) → Applies v S a h g → c.gives g p ≡ Some x
      → Open c (own_of h) v S h g.fid p x g
  on_way_now h g p x k has = record { made = made h g.fid.fileset g k.0; file = refl; has = has; not_applied = k.1 }

  live_now : (h : HostId) (g : Give) → Applies v S a h g → HasGoneAway S h → ⊥
  live_now h g k = taken_live v S a h g.fid.fileset (GiveBack g) k.0

  sizes' : (h : HostId) (g : Give) (x : ℕ) → site g.fid ≡ v → Applies v S a h g → c.gives g Size ≡ Some x
      → LegalSize (cells g.fid Size) h x
  sizes' h g x home k has = (b.0, b.1, whose (cells g.fid Size).unsaved refl)
    where
      w : Open c (own_of h) v S h g.fid Size x g
      w = on_way_now h g Size x k has

      b : ((cells g.fid Size).kept ≤ x) × (x ≤ present (cells g.fid Size))
      b = (o.shown h).size_open g.fid x g home w (live_now h g k)

      whose : (m : Option (Written ℕ)) → (cells g.fid Size).unsaved ≡ m → (x ≡ (cells g.fid Size).kept)
          ⊎ ((y : ℕ) × ((cells g.fid Size).unsaved ≡ Some (by h y)))
      whose None n = inl (let le = b.0 in
          let top : x ≤ (cells g.fid Size).kept = subst (λ m. x ≤ value_of m (cells g.fid Size).kept) n b.1 in
          omega (arith, le, top))
      whose (Some u) n =
          let same : h ≡ u.writer = storer u.writer g.fid x home (writer Size g.fid u home n)
          (record { host = h; give = g; applies = k; on_way = w }) in
          inr (u.value, n ∙ ap (λ i. Some (by i u.value)) (sym same))

  bytes' : (h : HostId) (g : Give) (q x : ℕ) → site g.fid ≡ v → Applies v S a h g → c.gives g (ByteAt q) ≡ Some x
      → ((cells g.fid (ByteAt q)).unsaved ≡ Some (by h x)) × IsWritable (kept c D g.fid Traits)
      × (q < kept c (d ∷ D) g.fid Size)
  bytes' h g q x home k has =
      let w = on_way_now h g (ByteAt q) x k has in
      let is = (o.shown h).open_is q g.fid x g home w (live_now h g k) in
      (is, o.treed.writable (ByteAt q) g.fid (by h x) home is, fits h q g.fid x g home w k.0)

  -- at traits and entries, and where no token for update is granted, nothing is unsaved
  still_none : (f : Fid) (p : Part) → site f ≡ v → IsStill v D f p → (cells f p).unsaved ≡ None
  still_none f p home (inl free) = o.treed.plain p f home free
  still_none f p home (inr bars) = none_of (cells f p).unsaved (λ u e. let w = writer p f u home e in
      barred v S o.at.served w.token (bars w.token w.file w.covers w.update) w.owed)

  pub kept_present : KeptIsPresent c v D cells
  kept_present = record { kept = λ f p home. o.treed.kept_is p f home; still = still_none }

  there_now : (h : HostId) (g : Give) (p : Part) (x : Seen p) → site g.fid ≡ v → Applies v S a h g
      → c.gives g p ≡ Some x → IsThere (present (cells g.fid Traits))
  there_now h g p x home k has =
      let n = open_there h p g.fid x g home (live_now h g k) (on_way_now h g p x k has) in (
        n.0,
        value_none (cells g.fid Traits).unsaved (cells g.fid Traits).kept (o.treed.plain Traits g.fid home (λ z. z))
            ∙ (o.treed.kept_is Traits g.fid home ∙ n.1),
      )

  pub legal_act : LegalDoing c v D d cells
  legal_act = record {
    bytes = bytes';
    sizes = sizes';
    there = there_now;
    changes = λ f p x home e. none_of (cells f p).unsaved (λ u q. let w = writer p f u home q in
        no_sets f p x w.token home e w.owed w.file w.covers);
  }
