-- How the ports of a chassis hang together, and the rules that their kinds and parents keep.
use Rattle.std.specs.Prelude.{ℕ, zero, suc, Bool, false, not, cond, ◌&&◌, ◌||◌, eqb, ltb, Result, Ok, Err}
use Rattle.chassis.specs.declared.kinds.Kind.{Kind}
use Rattle.chassis.specs.declared.kinds.Kind.TheVariants.{Root, Upstream, Downstream}
use Rattle.chassis.specs.declared.kinds.UnknownKind.{UnknownKind}

pub record Tree : Type 0 where
  pub count : ℕ
  pub kind : ℕ → ℕ
  pub parent : ℕ → ℕ

-- 01, "The picture": "kind: 0 root port, 1 switch upstream, 2 switch downstream"; "255 for a root port"
abbrev pub root_port : ℕ
root_port = 0

abbrev pub upstream : ℕ
upstream = 1

abbrev pub downstream : ℕ
downstream = 2

abbrev pub kind_of : ℕ → Result Kind UnknownKind
kind_of number =
    cond (eqb number root_port) (Ok Root)
    (cond (eqb number upstream) (Ok Upstream)
    (cond (eqb number downstream) (Ok Downstream) (Err (record { 0 = number }))))

-- 01, "The walk": "A place is the root, or what lies below a port". A place is a number: 255 the root, q what lies below port q
abbrev pub root : ℕ
root = 255

-- one of the numbers below n passes
unfoldable pub any_below : (ℕ → Bool) → ℕ → Bool
any_below test zero = false
any_below test (suc n) = any_below test n || test n

-- "the ports at a place are the root ports, or that port's children"
abbrev pub stands_at : Tree → ℕ → ℕ → Bool
stands_at tree place p = eqb (tree.parent p) place

-- one of the ports below number n is a child of q
abbrev pub has_child_below : Tree → ℕ → ℕ → Bool
has_child_below tree n q = any_below (stands_at tree q) n

-- "A root or downstream port without a child is a device port."
unfoldable pub is_device_port : Tree → ℕ → Bool
is_device_port tree p =
    ltb p tree.count && not (eqb (tree.kind p) upstream) && not (has_child_below tree tree.count p)

-- Number 6, "kind, parent or child rule broken", at a port, in the light of lower ports:
-- "A root port has parent 255. Any other port's parent has a lower number. An upstream port's parent is a root or downstream port,
-- which has no other child (the later child breaks the rule). A downstream port's parent is an upstream port."
unfoldable pub upstream_broken : Tree → ℕ → Bool
upstream_broken tree p = eqb (tree.kind (tree.parent p)) upstream || has_child_below tree p (tree.parent p)

unfoldable pub downstream_broken : Tree → ℕ → Bool
downstream_broken tree p = not (eqb (tree.kind (tree.parent p)) upstream)

unfoldable pub tree_broken : Tree → ℕ → Bool
tree_broken tree p =
    cond (eqb (tree.kind p) root_port) (not (eqb (tree.parent p) root))
    (not (ltb (tree.parent p) p)
    || cond (eqb (tree.kind p) upstream) (upstream_broken tree p)
    (not (eqb (tree.kind p) downstream) || downstream_broken tree p))

-- the port above p, and k steps above p; 255 once the root is reached
unfoldable pub one_above : Tree → ℕ → ℕ
one_above tree p = cond (eqb p root) root (tree.parent p)

unfoldable pub above : Tree → ℕ → ℕ → ℕ
above tree zero p = p
above tree (suc k) p = one_above tree (above tree k p)

-- Number 7, "chain over 16": "A chain from a root port downward has at most 16 ports", so nothing stands 16 steps above a port
unfoldable pub chain_too_long : Tree → ℕ → Bool
chain_too_long tree p = not (eqb (above tree 16 p) root)
