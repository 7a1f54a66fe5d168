use Rattle.std.proofs.Common.{◌≡◌, ◌-◌, ap, ◌∙◌, arith}
use Rattle.index.specs.Sound.{records_of}
use Rattle.index.specs.Filing.{nodes_of}
use Rattle.index.proofs.Unique.{kept}
use Rattle.index.specs.Map.{keys, used}
use Rattle.index.specs.View.{view}
use Rattle.index.proofs.Meaning.{used_nodes, used_empty, level}
use Rattle.index.proofs.index.Index.nodes_in_use.Goals as goal

pub overflow_sub-result : goal.overflow_sub-result
overflow_sub-result g c =
    let t = c.args.self.now.tree in
    omega (arith, (used_nodes t (kept c.args.self.now.whole) (records_of t) (level t)).0)

pub returns : goal.returns
returns g c =
    let t = c.args.self.now.tree in
    let u = used_nodes t (kept c.args.self.now.whole) (records_of t) (level t) in
    let lo = u.0 in
    let is : c.node_count.result - c.free_nodes.result ≡ used (nodes_of t) (keys (view c.args.self.now)) = omega (arith, u.1, c.node_count.ensures, c.free_nodes.ensures) in
    record {
      nodes = is;
      free = omega (arith, c.node_count.ensures, c.free_nodes.ensures);
      empty = λ e. is ∙ used_empty (nodes_of t) (keys (view c.args.self.now)) (ap keys e);
    }
