-- What is shown of a member stays as the bus and what was made grow, and as other members change.
use Rattle.std.proofs.Common.{◌≡◌, ◌≢◌, ℕ, Bool, List, sym, ap, subst, ◌∙◌, inl, inr}
use Rattle.std.proofs.lemmas.Bool.Decides.{eqb_tells}
use Rattle.kv_store.specs.KeyDisk.{KeyDisk}
use Rattle.raft_core.specs.Times.{Sending}
use Rattle.raft_log.specs.Stored.{Stored}
use Rattle.raft_model.specs.Lists.{In, at, at_here, at_other}
use Rattle.raft_model.specs.Messages.{Request}
use Rattle.raft_model.specs.Runs as raft
use Rattle.raft_model.specs.Server.{RaftServer}
use Rattle.transfer_rx.specs.Reassembly.{Setting}
use Rattle.transfer_rx.specs.Sessions.{Session}
use Rattle.transfer_tx.specs.Queue.{Queued}
use Rattle.allocatee.specs.Accepted as device
use Rattle.allocatee.specs.Allocatee.{Device}
use Rattle.alloc_spec.specs.Accepted.{setting_for}
use Rattle.alloc_spec.specs.AllocatorState.{AllocatorState}
use Rattle.alloc_spec.specs.Transfers.{SentTransfer}
use Rattle.bus_spec.specs.Members.{MemberStatus, Member}
use Rattle.bus_spec.specs.Members.MemberStatus.{Down, Up, Failed}
use Rattle.bus_agreement.specs.Asking.{IsAsking, IsGiven}
use Rattle.bus_agreement.specs.Frames.{AreHeard, IsOnBus, IsPiece}
use Rattle.bus_agreement.specs.Said.{AreCalled, IsCalled, carrier}
use Rattle.bus_agreement.specs.Shows.{IsAtWork, ShowsMember}

-- all of one list stands in the other
abbrev pub IsIn : {A : Type 0} → List A → List A → Type 0
IsIn {A} xs ys = (x : A) → In x xs → In x ys

module _ (made more : List SentTransfer) (still : IsIn made more) where
  pub piece_more : (by : ℕ) (frame : Queued) → IsPiece made by frame → IsPiece more by frame
  piece_more by frame is = record { whose = is.whose; was_made = still is.whose is.was_made; maker = is.maker; place = is.place; same = is.same }

  pub bus_more : (ids : List ℕ) (frame : Queued) → IsOnBus made ids frame → IsOnBus more ids frame
  bus_more ids frame (inl (n, there, is)) = inl (n, there, piece_more n frame is)
  bus_more ids frame (inr foreign) = inr foreign

  pub call_more : (t : AllocatorState) (peer : ℕ) (request : Request) (sending : Sending) → IsCalled made t peer request sending (carrier request.append)
      → IsCalled more t peer request sending (carrier request.append)
  call_more t peer request sending is = record {
    call = is.call;
    was_made = still is.call is.was_made;
    what = is.what;
    step = is.step;
    maker = is.maker;
    receiver = is.receiver;
    id = is.id;
    says = is.says;
  }

  pub called_more : (t : AllocatorState) → AreCalled made t → AreCalled more t
  called_more t called peer request pending = let c = called peer request pending in (c.0, c.1, call_more t peer request c.0 c.2)

pub heard_more : (frames longer : List Queued) → IsIn frames longer → (setting : Setting) (sessions : List Session) → AreHeard frames setting sessions
    → AreHeard longer setting sessions
heard_more frames longer still setting sessions is = record {
  arrivals = is.arrivals;
  come = λ arrival there. let c = is.come arrival there in
      record { frame = c.frame; there = still c.frame c.there; id = c.id; bytes = c.bytes; mark = c.mark };
  kept = is.kept;
}

module _ (made more : List SentTransfer) (still : IsIn made more) (frames longer : List Queued) (there : IsIn frames longer) where
  pub given_more : (uid : List ℕ) (node : ℕ) → IsGiven made uid node → IsGiven more uid node
  given_more uid node is = record {
    whose = is.whose;
    was_made = still is.whose is.was_made;
    what = is.what;
    answer = is.answer;
    reads = is.reads;
    own = is.own;
    gives = is.gives;
    some = is.some;
  }

  pub asking_more : (x : Device) → IsAsking made frames x → IsAsking more longer x
  asking_more x is = record {
    queue = is.queue;
    heard = heard_more frames longer there device.setting x.sessions is.heard;
    held = λ node e. given_more x.asking.uid node (is.held node e);
  }

module _ (choice : ℕ → Bool) (made more : List SentTransfer) (still : IsIn made more) (ids : List ℕ) (frames longer : List Queued) (there : IsIn frames longer)
    (run other : raft.World) where
  pub work_more : (m : ℕ) (t : AllocatorState) → IsAtWork made ids frames m t → IsAtWork more ids longer m t
  work_more m t is = record {
    queue = λ frame i. piece_more made more still m frame (is.queue frame i);
    heard = heard_more frames longer there (setting_for m) t.sessions is.heard;
    called = called_more made more still t is.called;
    among = is.among;
  }

  pub member_status_more : (m : ℕ) (status : MemberStatus) (disk : KeyDisk Stored) → other.server m ≡ run.server m → ShowsMember choice made ids frames run m status disk
      → ShowsMember choice more ids longer other m status disk
  member_status_more m Down disk e is = record {
    down = ap (λ (p : RaftServer). p.memory) e ∙ is.down;
    stored = ap (λ (p : RaftServer). p.store) e ∙ is.stored;
    nothing_unsynced = is.nothing_unsynced;
  }
  member_status_more m (Up t) disk e is = record {
    runs = record {
      me = is.runs.me;
      size = is.runs.size;
      raft_server = e ∙ is.runs.raft_server;
      up = is.runs.up;
      stored = is.runs.stored;
      nothing_unsynced = is.runs.nothing_unsynced;
      sound = is.runs.sound;
      order = is.runs.order;
      uids = is.runs.uids;
    };
    works = work_more m t is.works;
  }
  member_status_more m (Failed failure) disk e is = record {
    down = ap (λ (p : RaftServer). p.memory) e ∙ is.down;
    stored = ap (λ (p : RaftServer). p.store) e ∙ is.stored;
    found = is.found;
  }

  -- with another member n
  pub with_one : (member : ℕ → Member) → ((m : ℕ) → In m ids → ShowsMember choice made ids frames run m (member m).status (member m).disk)
      → (n : ℕ) (x : Member) → (In n ids → ShowsMember choice more ids longer other n x.status x.disk)
      → ((m : ℕ) → m ≢ n → other.server m ≡ run.server m)
      → (m : ℕ) → In m ids → ShowsMember choice more ids longer other m (at member n x m).status (at member n x m).disk
  with_one member lives n x here elsewhere m i = elim (eqb_tells m n) [
    | inl same ↦ subst (λ (y : Member). ShowsMember choice more ids longer other m y.status y.disk) (sym (at_here member n m x same.1))
        (subst (λ (k : ℕ). ShowsMember choice more ids longer other k x.status x.disk) (sym same.1) (here (subst (λ (k : ℕ). In k ids) same.1 i)))
    | inr apart ↦ subst (λ (y : Member). ShowsMember choice more ids longer other m y.status y.disk) (sym (at_other member n m x apart.1))
        (member_status_more m (member m).status (member m).disk (elsewhere m apart.1) (lives m i))
  ]
