-- What the table of the image with two snapshots computes with.
-- Assumes nothing.
use Rattle.endian.specs.Big.{be16, be32, be64, bytes16, bytes32, bytes64, entries, splice}
use Rattle.widths.specs.Width.{be, bytes, span, field, merge, number, stored}
use Rattle.units.specs.Units.{apply, apply_all, fill, cluster}
use Rattle.units.specs.Plan.{plan_units, plan_number, after}
use Rattle.tally.specs.Tally.{run, occurrences, figures}
use Rattle.qcow2_spec.specs.Header.{version, cluster_size, clusters, disk_size, l1_size, l1_at, table_at, table_clusters, count_order, width, per_block, blocks, per_table, table, block_at, good_block, good_table, unsupported, too_big, odd_size, bad_tables, header_number, table_number, snapshots, snapshots_at, entry_end, snapshot_at, roots, root_size, root_at, bad_snapshot, snapshot_number, judge, autoclear, backing_offset, name_length, backed, bad_name, backing_number, some_lent, judge_lent}
use Rattle.qcow2_spec.specs.Entries.{place, alone, good_place, common, good_l1, good_l2, compressed, zero_mark, new_entry}
use Rattle.qcow2_spec.specs.Counts.{count_at, count_of, set_count, free_at, free_from, free}
use Rattle.qcow2_spec.specs.Guest.{l1_entry_at, l1_entry, entry_way, l2_way, way, entry_gives, way_gives, located, translate, found_byte, guest_byte, guest_bytes, way_number, ways_number, reach, outside, touched, read_number, translated, backing_byte, range_number}
use Rattle.qcow2_spec.specs.Store.{own_slot, own_way, clear_units, clearing, judged, allot, write_new, write_table, write_slot, write_way, write_plan, discard_slot, discard_way, discard_plan, backing_cluster, new_bytes, write_list, cleared_entry, discard_list}
use Rattle.qcow2_spec.specs.References.{l1_entries, l2_entries, named, l2_refs, table_refs, l1_refs, root_run, snapshot_run, fixed_refs, root_refs, tables_in, data_in, references, figures_of}
use Rattle.qcow2_spec.specs.Check.{difference, l2_verdict, entry_verdict, l1_verdict, bad_in, roots_verdict, right_mark, wrong_marks, shared_by, shared_at, short, over, counts_verdict, verdict, repair_units, verdict_plan, repair_plan, repair_list, checked}
use Rattle.bench_table.specs.Table.{cost}
use Rattle.bench_table.specs.Shots.{shots, counts, two_bits, sixty_four_bits}

unfoldable pub computing : Unit {0}
unfolding be16 be32 be64 bytes16 bytes32 bytes64 entries be bytes span field merge number stored version cluster_size clusters disk_size l1_size l1_at table_at table_clusters count_order width per_block blocks per_table table block_at good_block good_table unsupported too_big odd_size bad_tables header_number table_number snapshots snapshots_at entry_end snapshot_at roots root_size root_at bad_snapshot snapshot_number judge count_at count_of free_at free_from place alone good_place common good_l1 good_l2 compressed zero_mark l1_entry_at l1_entry way entry_way l2_way entry_gives way_gives located translate found_byte guest_byte guest_bytes way_number ways_number reach outside touched read_number apply apply_all set_count fill cluster new_entry autoclear own_slot own_way clear_units clearing judged allot write_new write_table write_slot write_way write_plan discard_slot discard_way discard_plan plan_units plan_number after run l1_entries l2_entries named l2_refs table_refs l1_refs root_run snapshot_run fixed_refs root_refs tables_in data_in references occurrences figures figures_of short over l2_verdict entry_verdict l1_verdict bad_in roots_verdict right_mark wrong_marks shared_by shared_at counts_verdict verdict free repair_units verdict_plan repair_plan difference cost shots counts two_bits sixty_four_bits splice backing_offset name_length backed bad_name backing_number some_lent judge_lent translated backing_byte range_number backing_cluster new_bytes write_list cleared_entry discard_list repair_list checked
computing = tt
