use Rattle.qcow2_c.proofs.qcow2_backed_check_portion.Goals as goal

pub returns : goal.returns
returns c =
    let l = c.load-st.ensures in
    let p = rw l at c.portion-p.ensures in
    let k = rw (l, p.0) at c.keep.ensures in
    let r = rw p.0 at c.put_answer.ensures in
    (((r.0.0, r.0.1), (r.1.0, r.1.1)), (k, p.1))
